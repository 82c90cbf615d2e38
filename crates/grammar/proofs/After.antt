-- Each rule on the state after some records, whatever they hold, is the rule on the records since the last 01.
use mathlib.Core.Path.{◌≡◌, refl, sym, ◌∙◌, ap}
use mathlib.Core.Bool.{Bool, true, false, not, ◌&&◌, ◌||◌}
use mathlib.Core.Option.{Option}
use mathlib.Core.List.{List, [], ◌∷◌}
use Prim.Native.Nat.{ℕ, max}
use native.Mathlib.Omega.{arith}
use lib.Dec.{ltb}
use lib.IntN.{ℤ}
use borrow.Author.Tests.{ltb-true, ltb-false, lt-ltb, le-ltb}
use Rattle.zones.specs.Choice.{pick}
use Rattle.zones.proofs.Bools.{and_one}
use Rattle.grammar.specs.declared.Key.{Key}
use Rattle.grammar.specs.Machine.{after}
use Rattle.grammar.specs.Record.{Posting, Rec, opening, movement, complement, closing, is_opening, is_movement, is_complement, is_closing, Edition}
use Rattle.grammar.specs.Rules.{Open, Current, Mode, out, within, is_out, start, out_of_place, repeats_differ, differs, misdated, unsummed, second_mmo, too_long, recs}
use Rattle.grammar.specs.Since.{any, last_from, since_opening, inside, booked_after, balance_of, out_of_place_after, misdated_after, unsummed_after, unlike, is_mmo_record, differs_after, second_mmo_after, too_long_after}
use Rattle.grammar.proofs.Tests.{or_none}
use Rattle.grammar.proofs.Since.{any_last, skip, latest_of, open_of, current_of, mode_of, mode_after_lem}

-- the records since the last 01 are none, or begin with it
pub data Opened : List Rec → Type 0 where
  unopened : Opened []
  from : (k : Key) (d : ℕ) (b : ℤ) (rs : List Rec) → Opened (opening k d b ∷ rs)

-- this holds of any records
opened : (rs : List Rec) → Opened (since_opening rs)
unfolding last_from
opened [] = unopened
opened (r ∷ rs) = by r (any is_opening rs) (opened rs)
  where
    by : (r : Rec) (u : Bool) → Opened (since_opening rs) → Opened (pick u (since_opening rs) (pick (is_opening r) (r ∷ rs) []))
    by r true h = h
    by (opening k d b) false h = from k d b rs
    by (movement k p) false h = unopened
    by (complement e t) false h = unopened
    by (closing k d b) false h = unopened

-- the records since the last 04 are none, or begin with it
pub data Moved : List Rec → Type 0 where
  unmoved : Moved []
  moved : (k : Key) (p : Posting) (rs : List Rec) → Moved (movement k p ∷ rs)

-- this holds of any records
moves : (rs : List Rec) → Moved (last_from is_movement rs)
unfolding last_from
moves [] = unmoved
moves (r ∷ rs) = by r (any is_movement rs) (moves rs)
  where
    by : (r : Rec) (u : Bool) → Moved (last_from is_movement rs) → Moved (pick u (last_from is_movement rs) (pick (is_movement r) (r ∷ rs) []))
    by r true h = h
    by (opening k d b) false h = unmoved
    by (movement k p) false h = moved k p rs
    by (complement e t) false h = unmoved
    by (closing k d b) false h = unmoved

-- a rule that only an open statement can break, and one that nothing can
module _ (g : Mode → Bool) (o : Open) (x : Option Current) (h : g out ≡ false) where
  gate : {v : Bool} → g (within o x) ≡ v → (t : Bool) → g (pick t out (within o x)) ≡ (not t && v)
  gate e true = h
  gate e false = e

  off : g (within o x) ≡ false → (t : Bool) → g (pick t out (within o x)) ≡ false
  off e true = h
  off e false = e

-- a date before the latest is before the first or before a booking date
before_latest : (day d : ℕ) (rs : List Rec) → ltb day (latest_of d rs) ≡ (ltb day d || any (booked_after day) rs)
unfolding any
before_latest day d [] = or_none (ltb day d)
before_latest day d (opening k x b ∷ rs) = before_latest day d rs
before_latest day d (movement k p ∷ rs) =
    before_latest day (max d p.booked) rs ∙ by (ltb day d) (ltb day p.booked) refl refl
  where
    by : (t u : Bool) → ltb day d ≡ t → ltb day p.booked ≡ u
        → (ltb day (max d p.booked) || any (booked_after day) rs) ≡ (t || (u || any (booked_after day) rs))
    by true u e g = rw (lt-ltb day (max d p.booked) (omega (arith, ltb-true day d e)))
    by false true e g = rw (lt-ltb day (max d p.booked) (omega (arith, ltb-true day p.booked g)))
    by false false e g = rw (le-ltb day (max d p.booked) (omega (arith, ltb-false day d e, ltb-false day p.booked g)))
before_latest day d (complement e t ∷ rs) = before_latest day d rs
before_latest day d (closing k x b ∷ rs) = before_latest day d rs

module _ (E : Edition) where
  -- a statement is open
  inside_of : {since : List Rec} → Opened since → is_out (mode_of E since) ≡ not (inside since)
  unfolding any
  inside_of unopened = refl
  inside_of (from k d b rs) = by (open_of k d b rs) (current_of E (last_from is_movement rs)) (any is_closing rs)
    where
      by : (o : Open) (x : Option Current) (t : Bool) → is_out (pick t out (within o x)) ≡ not (not t)
      by o x true = refl
      by o x false = refl

  -- 7
  place_current : {l : List Rec} → Moved l → (o : Open) (r : Rec)
      → out_of_place (within o (current_of E l)) r ≡ (is_opening r || (is_complement r && not (any is_movement l)))
  unfolding out_of_place any
  place_current unmoved o r = ap (λ t. is_opening r || t) (sym (and_one (is_complement r)))
  place_current (moved k p rs) o (opening k' d b) = refl
  place_current (moved k p rs) o (movement k' q) = refl
  place_current (moved k p rs) o (complement e t) = refl
  place_current (moved k p rs) o (closing k' d b) = refl

  -- 7, from the last 01 on
  place_of : {since : List Rec} → Opened since → (r : Rec) → out_of_place (mode_of E since) r ≡ out_of_place_after since r
  unfolding out_of_place out_of_place_after any
  place_of unopened r = refl
  place_of (from k d b rs) r = by (any is_closing rs)
    where
      by : (t : Bool) → out_of_place (pick t out (within (open_of k d b rs) (current_of E (last_from is_movement rs)))) r
          ≡ pick (not t) (is_opening r || (is_complement r && not (any is_movement rs))) (not (is_opening r))
      by true = refl
      by false = rw (any_last is_movement rs) at (place_current (moves rs) (open_of k d b rs) r)

  -- 10
  unlike_current : {l : List Rec} → Moved l → (e : List ℕ) → repeats_differ (current_of E l) e ≡ unlike E l e
  unlike_current unmoved e = refl
  unlike_current (moved k p rs) e = refl

  -- 10, from the last 01 on
  differs_of : {since : List Rec} → Opened since → (r : Rec) → differs (mode_of E since) r ≡ differs_after E since r
  unfolding differs differs_after any
  differs_of unopened (opening k d b) = refl
  differs_of unopened (movement k p) = refl
  differs_of unopened (complement e t) = refl
  differs_of unopened (closing k d b) = refl
  differs_of (from k d b rs) (opening k' d' b') = off (λ m. differs m (opening k' d' b')) _ _ refl refl (any is_closing rs)
  differs_of (from k d b rs) (movement k' p) = gate (λ m. differs m (movement k' p)) _ _ refl refl (any is_closing rs)
  differs_of (from k d b rs) (complement e t) =
      rw (skip is_movement (opening k d b) rs refl) (gate (λ m. differs m (complement e t)) _ _ refl (unlike_current (moves rs) e) (any is_closing rs))
  differs_of (from k d b rs) (closing k' d' b') = gate (λ m. differs m (closing k' d' b')) _ _ refl refl (any is_closing rs)

  -- 11
  second_current : {l : List Rec} → Moved l → (o : Open) (r : Rec)
      → second_mmo E (within o (current_of E l)) r ≡ (is_mmo_record E r && any (is_mmo_record E) l)
  unfolding second_mmo any
  second_current unmoved o r = by (is_mmo_record E r)
    where
      by : (t : Bool) → false ≡ (t && false)
      by true = refl
      by false = refl
  second_current (moved k p rs) o (opening k' d b) = refl
  second_current (moved k p rs) o (movement k' q) = refl
  second_current (moved k p rs) o (complement e t) = by (any (is_mmo_record E) rs) (E.is_mmo t)
    where
      by : (a b : Bool) → (a && b) ≡ (b && a)
      by true true = refl
      by true false = refl
      by false true = refl
      by false false = refl
  second_current (moved k p rs) o (closing k' d b) = refl

  -- 11, from the last 01 on
  second_of : {since : List Rec} → Opened since → (r : Rec) → second_mmo E (mode_of E since) r ≡ second_mmo_after E since r
  unfolding second_mmo second_mmo_after any
  second_of unopened r = refl
  second_of (from k d b rs) r =
      rw (skip is_movement (opening k d b) rs refl) (gate (λ m. second_mmo E m r) _ _ refl (second_current (moves rs) (open_of k d b rs) r) (any is_closing rs))

  -- 12
  misdated_of : {since : List Rec} → Opened since → (r : Rec) → misdated (mode_of E since) r ≡ misdated_after since r
  unfolding misdated misdated_after any
  misdated_of unopened (opening k d b) = refl
  misdated_of unopened (movement k p) = refl
  misdated_of unopened (complement e t) = refl
  misdated_of unopened (closing k d b) = refl
  misdated_of (from k d b rs) (opening k' d' b') = off (λ m. misdated m (opening k' d' b')) _ _ refl refl (any is_closing rs)
  misdated_of (from k d b rs) (movement k' p) = gate (λ m. misdated m (movement k' p)) _ _ refl refl (any is_closing rs)
  misdated_of (from k d b rs) (complement e t) = off (λ m. misdated m (complement e t)) _ _ refl refl (any is_closing rs)
  misdated_of (from k d b rs) (closing k' d' b') =
      gate (λ m. misdated m (closing k' d' b')) _ _ refl (before_latest d' d rs) (any is_closing rs)

  -- 13
  unsummed_of : {since : List Rec} → Opened since → (r : Rec) → unsummed (mode_of E since) r ≡ unsummed_after since r
  unfolding unsummed unsummed_after any balance_of
  unsummed_of unopened (opening k d b) = refl
  unsummed_of unopened (movement k p) = refl
  unsummed_of unopened (complement e t) = refl
  unsummed_of unopened (closing k d b) = refl
  unsummed_of (from k d b rs) (opening k' d' b') = off (λ m. unsummed m (opening k' d' b')) _ _ refl refl (any is_closing rs)
  unsummed_of (from k d b rs) (movement k' p) = off (λ m. unsummed m (movement k' p)) _ _ refl refl (any is_closing rs)
  unsummed_of (from k d b rs) (complement e t) = off (λ m. unsummed m (complement e t)) _ _ refl refl (any is_closing rs)
  unsummed_of (from k d b rs) (closing k' d' b') = gate (λ m. unsummed m (closing k' d' b')) _ _ refl refl (any is_closing rs)

  -- 15
  long_of : {since : List Rec} → Opened since → too_long E (mode_of E since) ≡ too_long_after E since
  unfolding too_long too_long_after any
  long_of unopened = refl
  long_of (from k d b rs) = gate (too_long E) _ _ refl refl (any is_closing rs)

  -- the laws, for every row of records and every record after it, valid or not
  module _ (rs : List Rec) where
    -- the mode after the records rs, from the start of a file
    abbrev pub mode_after : Mode
    mode_after = (after (recs E) start rs).mode

    -- a statement is open
    pub inside_after : is_out mode_after ≡ not (inside (since_opening rs))
    inside_after = ap is_out (mode_after_lem E rs) ∙ inside_of (opened rs)

    module _ (r : Rec) where
      -- 7
      pub place_after : out_of_place mode_after r ≡ out_of_place_after (since_opening rs) r
      place_after = ap (λ m. out_of_place m r) (mode_after_lem E rs) ∙ place_of (opened rs) r

      -- 10
      pub differs_after_lem : differs mode_after r ≡ differs_after E (since_opening rs) r
      differs_after_lem = ap (λ m. differs m r) (mode_after_lem E rs) ∙ differs_of (opened rs) r

      -- 11
      pub second_after : second_mmo E mode_after r ≡ second_mmo_after E (since_opening rs) r
      second_after = ap (λ m. second_mmo E m r) (mode_after_lem E rs) ∙ second_of (opened rs) r

      -- 12
      pub misdated_after_lem : misdated mode_after r ≡ misdated_after (since_opening rs) r
      misdated_after_lem = ap (λ m. misdated m r) (mode_after_lem E rs) ∙ misdated_of (opened rs) r

      -- 13
      pub unsummed_after_lem : unsummed mode_after r ≡ unsummed_after (since_opening rs) r
      unsummed_after_lem = ap (λ m. unsummed m r) (mode_after_lem E rs) ∙ unsummed_of (opened rs) r

    -- 15
    pub long_after : too_long E mode_after ≡ too_long_after E (since_opening rs)
    long_after = ap (too_long E) (mode_after_lem E rs) ∙ long_of (opened rs)
