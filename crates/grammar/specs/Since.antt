-- The rules 7, 10 to 13 and 15 as the paper says them: of a record and of the records since the last 01 before it.
use Rattle.std.specs.Prelude.{Bool, false, not, ◌&&◌, ◌||◌, List, [], ◌∷◌, ℕ, ◌+◌, leb, ltb, length, ℤ, pos, ◌+ℤ◌}
use Rattle.zones.specs.Choice.{pick}
use Rattle.zones.specs.Copy.{same_bytes}
use Rattle.grammar.specs.declared.Key.{Key}
use Rattle.grammar.specs.Answer.{Counts}
use Rattle.grammar.specs.Record.{Rec, opening, movement, complement, closing, is_opening, is_movement, is_complement, is_closing, same_key, same_amount, Edition}

unfoldable pub any : (Rec → Bool) → List Rec → Bool
any p [] = false
any p (r ∷ rs) = p r || any p rs

-- the records from the last one that p takes on; none where it takes none
unfoldable pub last_from : (Rec → Bool) → List Rec → List Rec
last_from p [] = []
last_from p (r ∷ rs) = pick (any p rs) (last_from p rs) (pick (p r) (r ∷ rs) [])

-- since the last 01, it included
abbrev pub since_opening : List Rec → List Rec
since_opening rs = last_from is_opening rs

-- a statement is open: there is an 01, and no 07 after it
abbrev pub inside : List Rec → Bool
inside since = any is_opening since && not (any is_closing since)

-- the key of the 01, and whether another record has it
abbrev pub has_key : List Rec → Key → Bool
has_key [] k = false
has_key (opening key d b ∷ rs) k = same_key key k
has_key (movement key p ∷ rs) k = false
has_key (complement e t ∷ rs) k = false
has_key (closing key d b ∷ rs) k = false

-- the old balance date, and a date before it
abbrev pub before_old : List Rec → ℕ → Bool
before_old [] day = false
before_old (opening k d b ∷ rs) day = ltb day d
before_old (movement k p ∷ rs) day = false
before_old (complement e t ∷ rs) day = false
before_old (closing k d b ∷ rs) day = false

-- a movement booked after a date
abbrev pub booked_after : ℕ → Rec → Bool
booked_after day (opening k d b) = false
booked_after day (movement k p) = ltb day p.booked
booked_after day (complement e t) = false
booked_after day (closing k d b) = false

-- old balance plus all 04 amounts
unfoldable pub balance_of : ℤ → List Rec → ℤ
balance_of z [] = z
balance_of z (opening k d b ∷ rs) = balance_of b rs
balance_of z (movement k p ∷ rs) = balance_of (z +ℤ p.amount) rs
balance_of z (complement e t ∷ rs) = balance_of z rs
balance_of z (closing k d b ∷ rs) = balance_of z rs

-- 7: outside a statement all but an 01; inside one an 01, and a 05 before any 04
unfoldable pub out_of_place_after : List Rec → Rec → Bool
out_of_place_after since r =
    pick (inside since) (is_opening r || (is_complement r && not (any is_movement since))) (not (is_opening r))

-- 12: a booking date before the old date; a new date before the old date or before a booking date
unfoldable pub misdated_after : List Rec → Rec → Bool
misdated_after since (opening k d b) = false
misdated_after since (movement k p) = inside since && before_old since p.booked
misdated_after since (complement e t) = false
misdated_after since (closing k d b) = inside since && (before_old since d || any (booked_after d) since)

-- 13: old balance plus all 04 amounts is not the new balance
unfoldable pub unsummed_after : List Rec → Rec → Bool
unsummed_after since (opening k d b) = false
unsummed_after since (movement k p) = false
unsummed_after since (complement e t) = false
unsummed_after since (closing k d b) = inside since && not (same_amount (balance_of (pos 0) since) b)

module _ (E : Edition) where
  -- a 05 that does not repeat what stands in the last 04
  abbrev pub unlike : List Rec → List ℕ → Bool
  unlike [] e = false
  unlike (opening k d b ∷ rs) e = false
  unlike (movement k p ∷ rs) e = not (same_bytes (E.repeats k p) e)
  unlike (complement f t ∷ rs) e = false
  unlike (closing k d b ∷ rs) e = false

  abbrev pub is_mmo_record : Rec → Bool
  is_mmo_record (opening k d b) = false
  is_mmo_record (movement k p) = false
  is_mmo_record (complement e t) = E.is_mmo t
  is_mmo_record (closing k d b) = false

  -- 10: another key than the 01's; a 05 unlike its 04
  unfoldable pub differs_after : List Rec → Rec → Bool
  differs_after since (opening k d b) = false
  differs_after since (movement k p) = inside since && not (has_key since k)
  differs_after since (complement e t) = inside since && unlike (last_from is_movement since) e
  differs_after since (closing k d b) = inside since && not (has_key since k)

  -- 11: an MMO with an MMO since the last 04
  unfoldable pub second_mmo_after : List Rec → Rec → Bool
  second_mmo_after since r = inside since && (is_mmo_record r && any is_mmo_record (last_from is_movement since))

  -- 15: the statement has as many records as it may have
  unfoldable pub too_long_after : List Rec → Bool
  too_long_after since = inside since && leb E.most_in_statement (length since)

-- the counts of some records: statements by their 07, movements by their 04, complements by their 05
unfoldable pub tally : List Rec → Counts
tally [] = record { statements = 0; movements = 0; complements = 0 }
tally (opening k d b ∷ rs) = tally rs
tally (movement k p ∷ rs) =
    let c = tally rs in record { statements = c.statements; movements = 1 + c.movements; complements = c.complements }
tally (complement e t ∷ rs) =
    let c = tally rs in record { statements = c.statements; movements = c.movements; complements = 1 + c.complements }
tally (closing k d b ∷ rs) =
    let c = tally rs in record { statements = 1 + c.statements; movements = c.movements; complements = c.complements }
