-- The rules on numbers are the rules on the mode that the numbers stand for.
use mathlib.Core.Path.{◌≡◌, refl}
use mathlib.Core.Bool.{Bool, true, false, not, ◌&&◌, ◌||◌}
use mathlib.Core.Option.{none, some}
use mathlib.Core.List.{List}
use Prim.Native.Nat.{ℕ}
use Rattle.std.proofs.Common.{◌⊎◌, inl, inr}
use native.Mathlib.Omega.{arith}
use denote.Enum.Bare.{sameb}
use lib.Dec.{eqb, ltb, leb}
use borrow.Author.Tests.{eqb-true, ne_eqb}
use Rattle.zones.specs.Choice.{pick}
use Rattle.zones.specs.Copy.{same_bytes}
use Rattle.layouts.specs.Zone.{part}
use Rattle.grammar.specs.Record.{Rec, opening, movement, complement, closing, same_key, same_amount}
use Rattle.grammar.specs.Rules.{Mode, out, within, is_out, out_of_place, differs, second_mmo, misdated, unsummed, too_long}
use Rattle.records.specs.July.{july2004, most_in_statement, is_code, is_mmo, key_in, date_in, amount_in, posting_in, decode_record}
use Rattle.records.specs.Looks.{kind_of, judged_as, code_of}
use Rattle.records.specs.Tests.{movement_of, misplaced_by, second_mmo_by, misdated_by, unsummed_by, too_long_by}
use Rattle.records.specs.contracts.rules.LastMovement.{the_type}
use Rattle.records.specs.declared.Kind.{Kind}
use Rattle.records.specs.declared.Kind.TheVariants.{Opening, Movement, Complement, Closing}
use Rattle.records.specs.declared.rules.LastMovement.{LastMovement}
use Rattle.records.specs.declared.rules.LastMovement.TheVariants.{Absent, Plain, WithMmo}
use Rattle.statements.specs.Progress.{Flags, open_of, mode_of}

-- what stands in a record of a kind
abbrev pub stands : Kind → List ℕ → Rec
stands Opening b = opening (key_in b) (date_in b) (amount_in b)
stands Movement b = movement (key_in b) (posting_in b)
stands Complement b = complement (part 3 40 b) (part 46 118 b)
stands Closing b = closing (key_in b) (date_in b) (amount_in b)

pub decoded : (b : List ℕ) → decode_record b ≡ stands (judged_as b) b
unfolding kind_of decode_record
decoded b = by (is_code "01" b) (is_code "04" b) (is_code "05" b) (is_code "07" b) refl refl refl refl
  where
    by : (x y z w : Bool) → is_code "01" b ≡ x → is_code "04" b ≡ y → is_code "05" b ≡ z → is_code "07" b ≡ w → decode_record b ≡ stands (judged_as b) b
    by true y z w p q r s = rw p
    by false true z w p q r s = rw (p, q)
    by false false true w p q r s = rw (p, q, r)
    by false false false true p q r s = rw (p, q, r, s)
    by false false false false p q r s = rw (p, q, r, s)

-- the code's test for a movement
pub absent_is : (m : LastMovement) → eqb (movement_of m) 0 ≡ sameb the_type m Absent
absent_is Absent = refl
absent_is Plain = refl
absent_is WithMmo = refl

-- the mode, its three tests being given
abbrev mode_in : Bool → Bool → Bool → Flags → Mode
mode_in t u v f = pick t out (within (open_of f) (pick u none (some (record { repeated = f.repeated; seen = v }))))

or_none : (t : Bool) → (t || false) ≡ t
or_none true = refl
or_none false = refl

module _ (f : Flags) (b : List ℕ) where
  -- 7
  place_tests : (t u v : Bool) (k : Kind)
      → ((t && not (eqb (code_of k) 1)) || (not t && (eqb (code_of k) 1 || (eqb (code_of k) 5 && u)))) ≡ out_of_place (mode_in t u v f) (stands k b)
  unfolding out_of_place
  place_tests true u v Opening = refl
  place_tests true u v Movement = refl
  place_tests true u v Complement = refl
  place_tests true u v Closing = refl
  place_tests false true v Opening = refl
  place_tests false false v Opening = refl
  place_tests false true v Movement = refl
  place_tests false false v Movement = refl
  place_tests false true v Complement = refl
  place_tests false false v Complement = refl
  place_tests false true v Closing = refl
  place_tests false false v Closing = refl

  pub place_is : (k : Kind) → misplaced_by f.size f.movement (code_of k) ≡ out_of_place (mode_of f) (stands k b)
  unfolding mode_of
  place_is = place_tests (eqb f.size 0) (eqb f.movement 0) (eqb f.movement 2)

  -- 11
  apart : eqb f.movement 0 ≡ true → eqb f.movement 2 ≡ false
  apart e = let z : f.movement ≡ 0 = eqb-true _ _ e in ne_eqb f.movement 2 (λ q. omega arith)

  second_tests : (t u v : Bool) → (u ≡ true → v ≡ false) → (k : Kind)
      → (not t && ((eqb (code_of k) 5 && v) && is_mmo (part 46 118 b))) ≡ second_mmo july2004 (mode_in t u v f) (stands k b)
  unfolding second_mmo
  second_tests true u v g k = refl
  second_tests false true v g Opening = refl
  second_tests false true v g Movement = refl
  second_tests false true v g Complement = rw (g refl)
  second_tests false true v g Closing = refl
  second_tests false false v g Opening = refl
  second_tests false false v g Movement = refl
  second_tests false false v g Complement = refl
  second_tests false false v g Closing = refl

  pub second_is : (k : Kind) → second_mmo_by f.size f.movement (code_of k) (is_mmo (part 46 118 b)) ≡ second_mmo july2004 (mode_of f) (stands k b)
  unfolding mode_of
  second_is = second_tests (eqb f.size 0) (eqb f.movement 0) (eqb f.movement 2) apart

  -- 12
  dates_tests : (t u v : Bool) (k : Kind)
      → (not t && ((eqb (code_of k) 4 && ltb (date_in b) f.old) || (eqb (code_of k) 7 && ltb (date_in b) f.latest))) ≡ misdated (mode_in t u v f) (stands k b)
  unfolding misdated
  dates_tests true u v k = refl
  dates_tests false u v Opening = refl
  dates_tests false u v Movement = or_none (ltb (date_in b) f.old)
  dates_tests false u v Complement = refl
  dates_tests false u v Closing = refl

  pub dates_is : (k : Kind) → misdated_by f.size (code_of k) (date_in b) f.old f.latest ≡ misdated (mode_of f) (stands k b)
  unfolding mode_of
  dates_is = dates_tests (eqb f.size 0) (eqb f.movement 0) (eqb f.movement 2)

  -- 13
  sum_tests : (t u v : Bool) (k : Kind) → (not t && (eqb (code_of k) 7 && not (same_amount f.balance (amount_in b)))) ≡ unsummed (mode_in t u v f) (stands k b)
  unfolding unsummed
  sum_tests true u v k = refl
  sum_tests false u v Opening = refl
  sum_tests false u v Movement = refl
  sum_tests false u v Complement = refl
  sum_tests false u v Closing = refl

  pub sum_is : (k : Kind) → unsummed_by f.size (code_of k) (same_amount f.balance (amount_in b)) ≡ unsummed (mode_of f) (stands k b)
  unfolding mode_of
  sum_is = sum_tests (eqb f.size 0) (eqb f.movement 0) (eqb f.movement 2)

  -- 10, where each case of the code ends
  pub differs_out : (k : Kind) → f.size ≡ 0 → false ≡ differs (mode_of f) (stands k b)
  unfolding mode_of differs
  differs_out k h = rw h

  module _ (o : f.size ≡ 0 → ⊥) where
    pub differs_opening : false ≡ differs (mode_of f) (stands Opening b)
    unfolding mode_of differs
    differs_opening = rw (ne_eqb f.size 0 o)

    pub differs_none : eqb f.movement 0 ≡ true → false ≡ differs (mode_of f) (stands Complement b)
    unfolding mode_of differs
    differs_none m = rw (ne_eqb f.size 0 o, m)

    pub differs_repeated : eqb f.movement 0 ≡ false → not (same_bytes f.repeated (part 3 40 b)) ≡ differs (mode_of f) (stands Complement b)
    unfolding mode_of differs
    differs_repeated m = rw (ne_eqb f.size 0 o, m)

    pub differs_key : (k : Kind) → (k ≡ Movement) ⊎ (k ≡ Closing) → not (same_key f.key (key_in b)) ≡ differs (mode_of f) (stands k b)
    unfolding mode_of differs
    differs_key k (inl e) = rw (e, ne_eqb f.size 0 o)
    differs_key k (inr e) = rw (e, ne_eqb f.size 0 o)

-- 15
long_tests : (t u v : Bool) (f : Flags) → (not t && leb most_in_statement f.size) ≡ too_long july2004 (mode_in t u v f)
unfolding too_long
long_tests true u v f = refl
long_tests false u v f = refl

pub long_is : (f : Flags) → too_long_by f.size ≡ too_long july2004 (mode_of f)
unfolding mode_of
long_is f = long_tests (eqb f.size 0) (eqb f.movement 0) (eqb f.movement 2) f

-- a statement is open where there is a size
pub out_is : (f : Flags) → is_out (mode_of f) ≡ eqb f.size 0
unfolding mode_of
out_is f = by (eqb f.size 0)
  where
    by : (t : Bool) → is_out (mode_in t (eqb f.movement 0) (eqb f.movement 2) f) ≡ t
    by true = refl
    by false = refl
