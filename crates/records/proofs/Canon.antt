-- A record as the writer writes it: where it differs from what stood, and that no rule and no value tells the two apart.
use mathlib.Core.Path.{◌≡◌, refl, ap, sym, ◌∙◌}
use mathlib.Core.Bool.{Bool, true, false, not, ◌&&◌, ◌||◌, and-false, false≢true}
use mathlib.Core.List.{List, [], ◌∷◌, ◌++◌, append-nil, append_assoc}
use Prim.Native.Nat.{ℕ, ◌+◌, ◌-◌, ◌≤◌}
use native.Mathlib.Omega.{arith}
use lib.Dec.{eqb}
use lib.ListN.{length, take, drop, get_or, set, length-drop, take-append-drop}
use lib.Seq.{length-take-le, take_all, take-take, take-add, set_split, take-append-le, drop-append-le, drop_at, drop-drop, get_or-take, get_or-drop, get_or-set_same}
use lib.IntN.{ℤ}
use borrow.Author.Tests.{not-true}
use Rattle.zones.specs.Choice.{pick}
use Rattle.zones.specs.Class.{every}
use Rattle.zones.specs.Copy.{same_bytes}
use Rattle.zones.specs.Text.{bytes}
use Rattle.zones.proofs.Bools.{and_left, and_right, conj}
use Rattle.zones.proofs.Copies.{same_equal, equal_same}
use Rattle.amounts.specs.Amounts.{debit_zero, credit_zero, as_written}
use Rattle.amounts.proofs.RoundTrip.{stays, zero_written}
use Rattle.layouts.specs.Zone.{part, Zone, zoned, dated, run, Values, canon, covers}
use Rattle.layouts.proofs.PerLayout.{canon_front, rewritten}
use Rattle.grammar.specs.declared.Key.{Key}
use Rattle.grammar.specs.Record.{Rec, opening, movement, closing}
use Rattle.grammar.specs.Files.{Alike}
use Rattle.records.specs.Layouts.{layout01, layout04, layout05, layout_mmo, layout07}
use Rattle.records.specs.July.{record_size, is_code, is_mmo, unknown_code, layout05_of, layout_for, misfit, undated, key_in, date_in, amount_in, decode_record, canon_record, has_debit_zero, july}
use Rattle.records.proofs.Covered.{covers01, covers04, covers05, covers_mmo, covers07}
use Rattle.records.proofs.Coded.{other, as01, as04, as05}

-- the record of the values of an 01 or 07
unfoldable pub balance_in : (Key → ℕ → ℤ → Rec) → Values layout01 → Rec
balance_in r v =
    r (record { bank = v.1.0; branch = v.1.1.1.0; currency = v.1.1.1.1.0; decimals = v.1.1.1.1.1.0; account = v.1.1.1.1.1.1.1.0 })
    v.1.1.1.1.1.1.1.1.1.0 v.1.1.1.1.1.1.1.1.1.1.1.0

-- the same of a 04
unfoldable pub movement_in : Values layout04 → Rec
movement_in v =
    movement (record { bank = v.1.0; branch = v.1.1.1.0; currency = v.1.1.1.1.0; decimals = v.1.1.1.1.1.0; account = v.1.1.1.1.1.1.1.0 })
    (record {
      internal = v.1.1.0;
      code = v.1.1.1.1.1.1.1.1.0;
      booked = v.1.1.1.1.1.1.1.1.1.0;
      reject = v.1.1.1.1.1.1.1.1.1.1.0;
      value = v.1.1.1.1.1.1.1.1.1.1.1.0;
      label = v.1.1.1.1.1.1.1.1.1.1.1.1.0;
      entry = v.1.1.1.1.1.1.1.1.1.1.1.1.1.1.0;
      exempt = v.1.1.1.1.1.1.1.1.1.1.1.1.1.1.1.0;
      unavailable = v.1.1.1.1.1.1.1.1.1.1.1.1.1.1.1.1.0;
      amount = v.1.1.1.1.1.1.1.1.1.1.1.1.1.1.1.1.1.0;
      reference = v.1.1.1.1.1.1.1.1.1.1.1.1.1.1.1.1.1.1.0;
    })

module _ (b : List ℕ) (l : length b ≡ record_size) where
  -- a 05 is written as it stands
  pub canon05 : canon (layout05_of (part 46 118 b)) b ≡ b
  canon05 = by (is_mmo (part 46 118 b))
    where
      by : (t : Bool) → canon (pick t layout_mmo layout05) b ≡ b
      by true = canon_front 0 record_size layout_mmo [] b covers_mmo (omega arith) refl ∙ (append-nil (take record_size b) ∙ take_all record_size b (omega arith))
      by false = canon_front 0 record_size layout05 [] b covers05 (omega arith) refl ∙ (append-nil (take record_size b) ∙ take_all record_size b (omega arith))

  -- a layout by which b is judged, and by which it is judged as the writer writes it
  alike_by : (zs : List Zone) → covers 0 record_size zs ≡ true → layout_for b ≡ zs → layout_for (canon zs b) ≡ zs
      → unknown_code (canon zs b) ≡ unknown_code b → decode_record (canon zs b) ≡ decode_record b → Alike july (canon_record b) b
  unfolding canon_record misfit undated
  alike_by zs g p q u v =
      let w = rewritten record_size zs b g l in
      let e : canon_record b ≡ canon zs b = ap (λ x. canon x b) p in
      let n : eqb (length (canon zs b)) record_size ≡ eqb (length b) record_size = ap (λ x. eqb x record_size) (w.size ∙ sym l) in
      rw e
      (record {
        sized = w.size ∙ sym l;
        permitted = ap not w.permitted_same;
        known = u;
        fits = ap not (conj n (ap (λ x. run zoned x (canon zs b)) q ∙ (w.zoned_same ∙ sym (ap (λ x. run zoned x b) p))));
        dated = ap not (conj n (ap (λ x. run dated x (canon zs b)) q ∙ (w.dated_same ∙ sym (ap (λ x. run dated x b) p))));
        values = v;
      })

  -- a code is read off 1-2
  code_same : (c : List ℕ) → part 1 2 c ≡ part 1 2 b → unknown_code c ≡ unknown_code b
  unfolding unknown_code
  code_same c e = ap (λ z. not (same_bytes (bytes "01") z || (same_bytes (bytes "04") z || (same_bytes (bytes "05") z || same_bytes (bytes "07") z)))) e

  -- no rule and no value tells a record from what it is written as
  pub alike : Alike july (canon_record b) b
  unfolding canon_record layout_for decode_record balance_in movement_in
  alike = by (is_code "01" b) (is_code "04" b) (is_code "05" b) refl refl refl
    where
      by : (t u v : Bool) → is_code "01" b ≡ t → is_code "04" b ≡ u → is_code "05" b ≡ v → Alike july (canon_record b) b
      by true u v p q r =
          let w = rewritten record_size layout01 b covers01 l in
          let s = as01 (canon layout01 b) (ap (same_bytes (bytes "01")) w.zones.0 ∙ p) in
          let t = as01 b p in
          alike_by layout01 covers01 t.layout s.layout (code_same (canon layout01 b) w.zones.0)
          (s.values ∙ (ap (balance_in opening) w.values ∙ sym t.values))
      by false true v p q r =
          let w = rewritten record_size layout04 b covers04 l in
          let s = as04 (canon layout04 b) (ap (same_bytes (bytes "04")) w.zones.0 ∙ q) in
          let t = as04 b q in
          alike_by layout04 covers04 t.layout s.layout (code_same (canon layout04 b) w.zones.0)
          (s.values ∙ (ap movement_in w.values ∙ sym t.values))
      by false false true p q r =
          let e : canon_record b ≡ b = ap (λ x. canon x b) (as05 b r).layout ∙ canon05 in
          rw e (record { sized = refl; permitted = refl; known = refl; fits = refl; dated = refl; values = refl })
      by false false false p q r =
          let c = canon layout07 b in
          let w = rewritten record_size layout07 b covers07 l in
          let p' : is_code "01" c ≡ false = ap (same_bytes (bytes "01")) w.zones.0 ∙ p in
          let q' : is_code "04" c ≡ false = ap (same_bytes (bytes "04")) w.zones.0 ∙ q in
          let r' : is_code "05" c ≡ false = ap (same_bytes (bytes "05")) w.zones.0 ∙ r in
          let v : decode_record c ≡ closing (key_in c) (date_in c) (amount_in c) = rw (p', q', r') in
          let v' : decode_record b ≡ closing (key_in b) (date_in b) (amount_in b) = rw (p, q, r) in
          alike_by layout07 covers07 (rw (p, q, r)) (rw (p', q', r')) (code_same c w.zones.0)
          (v ∙ (ap (balance_in closing) w.values ∙ sym v'))

  -- BY POSITION: an amount stands in 91-104 of all records but a 05
  pub canon_place : canon_record b ≡ pick (is_code "05" b) b (take 90 b ++ (as_written (part 91 104 b) ++ drop 104 b))
  unfolding canon_record layout_for every same_bytes
  canon_place = by (is_code "01" b) (is_code "04" b) (is_code "05" b) refl refl refl
    where
      rest : part 105 120 b ++ [] ≡ drop 104 b
      rest = append-nil (part 105 120 b) ∙ take_all 16 (drop 104 b) (rw length-drop (omega arith))

      by : (t u v : Bool) → is_code "01" b ≡ t → is_code "04" b ≡ u → is_code "05" b ≡ v
          → canon_record b ≡ pick (is_code "05" b) b (take 90 b ++ (as_written (part 91 104 b) ++ drop 104 b))
      by true u v p q r =
          rw (p, other "05" "01" b refl p) (canon_front 0 90 (take 11 layout01) (drop 11 layout01) b refl (omega arith) refl ∙ ap (λ x. take 90 b ++ (as_written (part 91 104 b) ++ x)) rest)
      by false true v p q r =
          rw (p, q, other "05" "04" b refl q) (canon_front 0 90 (take 17 layout04) (drop 17 layout04) b refl (omega arith) refl ∙ ap (λ x. take 90 b ++ (as_written (part 91 104 b) ++ x)) rest)
      by false false true p q r = rw (p, q, r) canon05
      by false false false p q r =
          rw (p, q, r) (canon_front 0 90 (take 11 layout07) (drop 11 layout07) b refl (omega arith) refl ∙ ap (λ x. take 90 b ++ (as_written (part 91 104 b) ++ x)) rest)

  -- what stands before 91 stays
  pub front_kept : (a z : ℕ) → 1 ≤ a → a ≤ z → z ≤ 90 → part a z (canon_record b) ≡ part a z b
  front_kept a z g h m = ap (part a z) canon_place ∙ by (is_code "05" b)
    where
      inside : (y : List ℕ) → part a z (take 90 b ++ y) ≡ part a z (take 90 b)
      inside y =
          let n : length (take 90 b) ≡ 90 = length-take-le 90 b (omega arith) in
          rw (drop-append-le (a - 1) (take 90 b) y (omega arith))
          (take-append-le (z + 1 - a) (drop (a - 1) (take 90 b)) y (rw length-drop (omega arith)))

      by : (t : Bool) → part a z (pick t b (take 90 b ++ (as_written (part 91 104 b) ++ drop 104 b))) ≡ part a z b
      by true = refl
      by false = inside (as_written (part 91 104 b) ++ drop 104 b) ∙ (sym (inside (drop 90 b)) ∙ ap (part a z) (take-append-drop 90 b))

  -- without a debit zero it stays as it stands
  pub own_record : has_debit_zero b ≡ false → canon_record b ≡ b
  own_record h = canon_place ∙ by (is_code "05" b) (same_bytes (part 91 104 b) debit_zero) refl h
    where
      joined : take 90 b ++ (part 91 104 b ++ drop 104 b) ≡ b
      joined = rw (← drop-drop 14 90 b, take-append-drop 14 (drop 90 b)) (take-append-drop 90 b)

      by : (t u : Bool) → same_bytes (part 91 104 b) debit_zero ≡ u → (not t && u) ≡ false
          → pick t b (take 90 b ++ (as_written (part 91 104 b) ++ drop 104 b)) ≡ b
      by true u e h = refl
      by false true e h = absurd (false≢true (sym h))
      by false false e h =
          rw (stays (part 91 104 b) (λ d. false≢true (sym e ∙ rw d (equal_same debit_zero)))) joined

  -- and with one it does not
  pub record_own : canon_record b ≡ b → has_debit_zero b ≡ false
  record_own e = by (is_code "05" b) (same_bytes (part 91 104 b) debit_zero) refl (sym canon_place ∙ e)
    where
      apart : credit_zero ≡ debit_zero → ⊥
      apart d = let z : ◌≡◌ {A = ℕ} 123 125 = ap (λ l. get_or l 13 0) d in omega arith

      by : (t u : Bool) → same_bytes (part 91 104 b) debit_zero ≡ u → pick t b (take 90 b ++ (as_written (part 91 104 b) ++ drop 104 b)) ≡ b
          → (not t && u) ≡ false
      by true u d h = refl
      by false false d h = refl
      by false true d h =
          let z : part 91 104 b ≡ debit_zero = same_equal (part 91 104 b) debit_zero d in
          let g : take 90 b ++ (credit_zero ++ drop 104 b) ≡ b = ap (λ y. take 90 b ++ (y ++ drop 104 b)) (sym (ap as_written z ∙ zero_written)) ∙ h in
          let n = drop_at (take 90 b) (credit_zero ++ drop 104 b) 90 (length-take-le 90 b (omega arith)) in
          absurd (apart (sym (ap (take 14) n) ∙ (ap (part 91 104) g ∙ z)))

  -- AS CODE WRITES IT: where there is a debit zero, position 104 becomes `{`
  pub canon_set : canon_record b ≡ pick (has_debit_zero b) (set b 103 123) b
  canon_set = by (has_debit_zero b) refl
    where
      by : (t : Bool) → has_debit_zero b ≡ t → canon_record b ≡ pick t (set b 103 123) b
      by false e = own_record e
      by true e =
          let z : part 91 104 b ≡ debit_zero = same_equal (part 91 104 b) debit_zero (and_right (not (is_code "05" b)) _ e) in
          let n : is_code "05" b ≡ false = not-true _ (and_left (not (is_code "05" b)) _ e) in
          let k : take 13 (drop 90 b) ≡ take 13 debit_zero = sym (take-take 13 14 (drop 90 b) (omega arith)) ∙ ap (take 13) z in
          let m : take 103 b ≡ take 90 b ++ take 13 debit_zero = take-add 90 13 b ∙ ap (λ y. take 90 b ++ y) k in
          canon_place
          ∙ rw (n, z, zero_written, set_split b 103 123 (omega arith), m) (sym (append_assoc (take 90 b) (take 13 debit_zero) (123 ∷ drop 104 b)))

-- an amount with another last digit is none
pub other_digit : (r : List ℕ) → (get_or r 103 0 ≡ 125 → ⊥) → false ≡ has_debit_zero r
other_digit r n = by (same_bytes (part 91 104 r) debit_zero) refl
  where
    there : part 91 104 r ≡ debit_zero → get_or r 103 0 ≡ 125
    there e = sym (get_or-take 14 (drop 90 r) 13 0 (omega arith) ∙ get_or-drop 90 r 13 0) ∙ ap (λ (l : List ℕ). get_or l 13 0) e

    by : (t : Bool) → same_bytes (part 91 104 r) debit_zero ≡ t → false ≡ (not (is_code "05" r) && t)
    by true e = absurd (n (there (same_equal (part 91 104 r) debit_zero e)))
    by false e = sym (and-false (not (is_code "05" r)))

-- what is written is written as it stands, whatever the bytes
pub once : (b : List ℕ) → length b ≡ record_size → canon_record (canon_record b) ≡ canon_record b
once b l = by (has_debit_zero b) refl
  where
    by : (t : Bool) → has_debit_zero b ≡ t → canon_record (canon_record b) ≡ canon_record b
    by false e = ap canon_record (own_record b l e)
    by true e =
        let c : canon_record b ≡ set b 103 123 = canon_set b l ∙ rw e in
        let n : get_or (canon_record b) 103 0 ≡ 123 = ap (λ (x : List ℕ). get_or x 103 0) c ∙ get_or-set_same b 103 123 0 (omega arith) in
        own_record (canon_record b) ((alike b l).sized ∙ l) (sym (other_digit (canon_record b) (λ m. omega (arith, n, m))))
