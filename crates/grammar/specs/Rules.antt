-- The state between two records, and the rules 7, 10 to 13 and 15 on it.
use Rattle.std.specs.Prelude.{Bool, true, false, not, ◌&&◌, ◌||◌, List, [], ◌∷◌, ℕ, ◌+◌, max, leb, ltb, ℤ, ◌+ℤ◌}
use Rattle.std.proofs.Math.Option.{Option, none, some}
use Rattle.zones.specs.Copy.{same_bytes}
use Rattle.grammar.specs.declared.Key.{Key}
use Rattle.grammar.specs.Answer.{Rule, rule, Counts}
use Rattle.grammar.specs.Machine.{Machine}
use Rattle.grammar.specs.Record.{Rec, opening, movement, complement, closing, is_opening, is_complement, same_key, same_amount, Edition}

-- an open statement: its key, the old date, the latest date so far, the balance so far, its records so far
pub record Open : Type 0 where
  pub key : Key
  pub old : ℕ
  pub latest : ℕ
  pub balance : ℤ
  pub size : ℕ

-- an open movement: what its 05 must repeat, and whether an MMO was seen
pub record Current : Type 0 where
  pub repeated : List ℕ
  pub seen : Bool

pub data Mode : Type 0 where
  out : Mode
  within : Open → Option Current → Mode

pub record State : Type 0 where
  pub counts : Counts
  pub mode : Mode

abbrev pub is_out : Mode → Bool
is_out out = true
is_out (within o c) = false

-- 7: record out of place
unfoldable pub out_of_place : Mode → Rec → Bool
out_of_place out r = not (is_opening r)
out_of_place (within o none) r = is_opening r || is_complement r
out_of_place (within o (some c)) r = is_opening r

-- 10: key, or what a 05 repeats, differs
abbrev pub repeats_differ : Option Current → List ℕ → Bool
repeats_differ none e = false
repeats_differ (some c) e = not (same_bytes c.repeated e)

unfoldable pub differs : Mode → Rec → Bool
differs out r = false
differs (within o c) (opening k d b) = false
differs (within o c) (movement k p) = not (same_key o.key k)
differs (within o c) (complement e t) = repeats_differ c e
differs (within o c) (closing k d b) = not (same_key o.key k)

-- 12: order of dates
unfoldable pub misdated : Mode → Rec → Bool
misdated out r = false
misdated (within o c) (opening k d b) = false
misdated (within o c) (movement k p) = ltb p.booked o.old
misdated (within o c) (complement e t) = false
misdated (within o c) (closing k d b) = ltb d o.latest

-- 13: sum wrong
unfoldable pub unsummed : Mode → Rec → Bool
unsummed out r = false
unsummed (within o c) (opening k d b) = false
unsummed (within o c) (movement k p) = false
unsummed (within o c) (complement e t) = false
unsummed (within o c) (closing k d b) = not (same_amount o.balance b)

abbrev pub begun : Key → ℕ → ℤ → Open
begun k d b = record { key = k; old = d; latest = d; balance = b; size = 1 }

abbrev pub grown : Open → ℕ → ℤ → Open
grown o d a =
    record { key = o.key; old = o.old; latest = max o.latest d; balance = o.balance +ℤ a; size = o.size + 1 }

abbrev pub sized : ℕ → Open → Open
sized n o = record { key = o.key; old = o.old; latest = o.latest; balance = o.balance; size = n }

abbrev pub counted : Counts → Rec → Counts
counted c (opening k d b) = c
counted c (movement k p) =
    record { statements = c.statements; movements = c.movements + 1; complements = c.complements }
counted c (complement e t) =
    record { statements = c.statements; movements = c.movements; complements = c.complements + 1 }
counted c (closing k d b) =
    record { statements = c.statements + 1; movements = c.movements; complements = c.complements }

abbrev pub start : State
start = record { counts = record { statements = 0; movements = 0; complements = 0 }; mode = out }

module _ (E : Edition) where
  -- 11: second MMO in a movement
  unfoldable pub second_mmo : Mode → Rec → Bool
  second_mmo out r = false
  second_mmo (within o none) r = false
  second_mmo (within o (some c)) (opening k d b) = false
  second_mmo (within o (some c)) (movement k p) = false
  second_mmo (within o (some c)) (complement e t) = c.seen && E.is_mmo t
  second_mmo (within o (some c)) (closing k d b) = false

  -- 15: record that would be one too many for its statement
  unfoldable pub too_long : Mode → Bool
  too_long out = false
  too_long (within o c) = leb E.most_in_statement o.size

  abbrev pub rules : Mode → Rec → List Rule
  rules m r =
      rule 7 (out_of_place m r)
      ∷ rule 10 (differs m r)
      ∷ rule 11 (second_mmo m r)
      ∷ rule 12 (misdated m r)
      ∷ rule 13 (unsummed m r)
      ∷ rule 15 (too_long m)
      ∷ []

  -- the next state, whatever the record holds
  abbrev pub next : Mode → Rec → Mode
  next m (opening k d b) = within (begun k d b) none
  next out (movement k p) = out
  next (within o c) (movement k p) =
      within (grown o p.booked p.amount) (some (record { repeated = E.repeats k p; seen = false }))
  next out (complement e t) = out
  next (within o none) (complement e t) = within (sized (o.size + 1) o) none
  next (within o (some c)) (complement e t) =
      within (sized (o.size + 1) o) (some (record { repeated = c.repeated; seen = c.seen || E.is_mmo t }))
  next m (closing k d b) = out

  abbrev pub taken : State → Rec → State
  taken s r = record { counts = counted s.counts r; mode = next s.mode r }

  abbrev pub recs : Machine
  recs =
      record {
        State = State;
        Record = Rec;
        rules = λ s. rules s.mode;
        taken = taken;
        closed = λ s. is_out s.mode;
        counts = λ s. s.counts;
      }
