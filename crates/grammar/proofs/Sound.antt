-- From the records to the statements: a clean row that ends closed is the row of valid statements, those that `back` reads.
use mathlib.Core.Path.{◌≡◌, refl, ◌∙◌, ap, ap₂}
use mathlib.Core.Bool.{Bool, true, false, ◌&&◌, ◌||◌}
use mathlib.Core.Option.{none, some}
use mathlib.Core.List.{List, [], ◌∷◌}
use Prim.Native.Nat.{ℕ, ◌+◌, ◌<◌, ◌≤◌}
use native.Mathlib.Omega.{arith}
use lib.ListN.{length}
use lib.IntN.{ℤ}
use borrow.Author.Tests.{not-false, ltb-false, leb-false}
use Rattle.zones.specs.Choice.{pick}
use Rattle.zones.proofs.Copies.{same_equal}
use Rattle.framing.specs.Files.{All}
use Rattle.grammar.specs.declared.Key.{Key}
use Rattle.grammar.specs.Answer.{first_of, Counts}
use Rattle.grammar.specs.Machine.{judge_of, after}
use Rattle.grammar.specs.Record.{Posting, Rec, opening, movement, complement, closing, Edition}
use Rattle.grammar.specs.Rules.{Open, Mode, out, within, State, is_out, out_of_place, differs, misdated, unsummed, grown, counted, second_mmo, too_long, rules, next, recs}
use Rattle.grammar.specs.Statements.{plus, sizes, mmos, ValidMovement, Valid, all_records, Back, back_one, back}
use Rattle.grammar.proofs.Tests.{clash, same_key_true, same_amount_true}
use Rattle.grammar.proofs.Runs.{Clean}
use Rattle.grammar.proofs.Quiet.{quiet}
use Rattle.grammar.proofs.Rows.{adds_then, moves_then, all_cons}

-- a test as a number, to count MMOs
abbrev pub bit : Bool → ℕ
bit t = pick t 1 0

-- a mode with some counts
abbrev pub at : Counts → Mode → State
at c m = record { counts = c; mode = m }

-- 7 is a refusal
seven : ◌≡◌ {A = ℕ} 7 0 → ⊥
seven e = omega arith

-- a test counts at most once
bit_le : (t : Bool) → bit t ≤ 1
bit_le true = omega arith
bit_le false = omega arith

-- two tests that do not both pass
bit_or : (a b : Bool) → (a && b) ≡ false → bit (a || b) ≡ bit a + bit b
bit_or true true e = absurd (clash refl e)
bit_or true false e = refl
bit_or false b e = omega arith

module _ (E : Edition) where
  -- what is left of an open statement
  pub record Ends (o : Open) (b : Back) : Type 0 where
    pub movements : All (ValidMovement E o.old b.date) b.movements
    pub dates : o.latest ≤ b.date
    pub sum : plus o.balance b.movements ≡ b.balance
    pub short : o.size + length b.complements + sizes b.movements + 1 ≤ E.most_in_statement
    pub valid : All (Valid E) b.whole

  -- the records of what is left
  abbrev pub tail_of : Key → Back → List Rec
  tail_of k b = moves_then E k b.movements (closing k b.date b.balance ∷ all_records E b.whole)

  -- the row rs, read from a mode on, holds what `back` made of it
  abbrev pub Holds : Mode → List Rec → Back → Type 0
  Holds out rs b = All (Valid E) b.whole × (all_records E b.whole ≡ rs)
  Holds (within o none) rs b = Ends o b × (b.complements ≡ []) × (tail_of o.key b ≡ rs)
  Holds (within o (some u)) rs b =
      Ends o b × (bit u.seen + mmos E b.complements ≤ 1) × (adds_then u.repeated b.complements (tail_of o.key b) ≡ rs)

  -- a movement, and the end, before what is left
  ends_movement : (k : Key) (p : Posting) (o : Open) (b : Back) → o.old ≤ p.booked → o.size < E.most_in_statement
      → Ends (grown o p.booked p.amount) b → bit false + mmos E b.complements ≤ 1 → Ends o (back_one (movement k p) b)
  unfolding plus sizes
  ends_movement k p o b f g h q =
      record {
        movements = (record { after = f; before = omega (arith, h.dates); single = omega (arith, q) }, h.movements);
        dates = omega (arith, h.dates);
        sum = h.sum;
        short = omega (arith, h.short);
        valid = h.valid;
      }

  -- the end of a statement alone
  ends_closing : (k : Key) (d : ℕ) (a : ℤ) (o : Open) (b : Back) → o.latest ≤ d → o.balance ≡ a → o.size < E.most_in_statement
      → All (Valid E) b.whole → Ends o (back_one (closing k d a) b)
  unfolding plus sizes
  ends_closing k d a o b f e g h = record { movements = tt; dates = f; sum = e; short = omega arith; valid = h }

  -- one record more
  step : (m : Mode) (r : Rec) (rs : List Rec) (b : Back) → first_of (rules E m r) ≡ 0 → Holds (next E m r) rs b → Holds m (r ∷ rs) (back_one r b)
  unfolding mmos out_of_place differs second_mmo misdated unsummed too_long
  step out (opening k d a) rs b j h = (
    (
      record { dates = h.0.dates; movements = h.0.movements; sum = h.0.sum; short = omega (arith, h.0.short) },
      h.0.valid,
    ),
    all_cons E _ b.whole ∙ ap (λ l. opening k d a ∷ l) h.2,
  )
  step out (movement k p) rs b j h = absurd (seven j)
  step out (complement e t) rs b j h = absurd (seven j)
  step out (closing k d a) rs b j h = absurd (seven j)
  step (within o none) (opening k d a) rs b j h = absurd (seven j)
  step (within o none) (movement k p) rs b j h =
      let f = quiet E (within o none) (movement k p) j in
      let e = same_key_true o.key k (not-false _ f.same) in (
        ends_movement k p o b (ltb-false _ _ f.dated) (leb-false _ _ f.short) h.0 h.1,
        refl,
        ap (λ q. movement q p ∷ adds_then (E.repeats q p) b.complements (tail_of o.key b)) e ∙ ap (λ l. movement k p ∷ l) h.2,
      )
  step (within o none) (complement e t) rs b j h = absurd (seven j)
  step (within o none) (closing k d a) rs b j h =
      let f = quiet E (within o none) (closing k d a) j in
      let e = same_key_true o.key k (not-false _ f.same) in (
        ends_closing k d a o b (ltb-false _ _ f.dated) (same_amount_true _ _ (not-false _ f.summed)) (leb-false _ _ f.short) h.0,
        refl,
        ap₂ (λ q l. closing q d a ∷ l) e h.1,
      )
  step (within o (some u)) (opening k d a) rs b j h = absurd (seven j)
  step (within o (some u)) (movement k p) rs b j h =
      let f = quiet E (within o (some u)) (movement k p) j in
      let e = same_key_true o.key k (not-false _ f.same) in (
        ends_movement k p o b (ltb-false _ _ f.dated) (leb-false _ _ f.short) h.0 h.1,
        omega (arith, bit_le u.seen),
        ap (λ q. movement q p ∷ adds_then (E.repeats q p) b.complements (tail_of o.key b)) e ∙ ap (λ l. movement k p ∷ l) h.2,
      )
  step (within o (some u)) (complement e t) rs b j h =
      let f = quiet E (within o (some u)) (complement e t) j in
      let v = same_equal u.repeated e (not-false _ f.same) in (
        record {
          movements = h.0.movements;
          dates = h.0.dates;
          sum = h.0.sum;
          short = omega (arith, h.0.short);
          valid = h.0.valid;
        },
        omega (arith, h.1, bit_or u.seen (E.is_mmo t) f.single),
        ap₂ (λ q l. complement q t ∷ l) v h.2,
      )
  step (within o (some u)) (closing k d a) rs b j h =
      let f = quiet E (within o (some u)) (closing k d a) j in
      let e = same_key_true o.key k (not-false _ f.same) in (
        ends_closing k d a o b (ltb-false _ _ f.dated) (same_amount_true _ _ (not-false _ f.summed)) (leb-false _ _ f.short) h.0,
        omega (arith, bit_le u.seen),
        ap₂ (λ q l. closing q d a ∷ l) e h.1,
      )

  -- so a clean row that ends closed holds what `back` made of it
  pub sound : (rs : List Rec) (c : Counts) (m : Mode) → Clean (recs E) (at c m) rs → is_out (after (recs E) (at c m) rs).mode ≡ true
      → Holds m rs (back rs)
  unfolding judge_of back all_records
  sound [] c out h e = (tt, refl)
  sound [] c (within o x) h e = absurd (clash e refl)
  sound (r ∷ rs) c m h e = step m r rs (back rs) h.0 (sound rs (counted c r) (next E m r) h.1 e)
