-- The rule of the generic codes, over the whole table by one test that antt computes, and the two counts of annex 2.
use mathlib.Core.Path.{◌≡◌, refl, ap, ◌∙◌, sym}
use mathlib.Core.Bool.{Bool, true, ◌&&◌, ◌||◌, not, and-eq-true_iff}
use mathlib.Core.List.{List, [], ◌∷◌}
use Prim.Native.Nat.{ℕ, suc, ◌<◌}
use lib.Dec.{eqb, ltb}
use lib.ListN.{length}
use borrow.Author.Tests.{ltb-true, eqb-true, lt-ltb, ne_eqb}
use Rattle.zones.specs.Choice.{pick}
use Rattle.zones.specs.Class.{every}
use Rattle.zones.proofs.Every.{every_at}
use Rattle.zones.proofs.Table.{tabulate_at}
use Rattle.codes.specs.Annex.{annex}
use Rattle.codes.specs.Code.{most_codes, char_value, no_generic, row_at, one_of, number_at, code_table, generic_of, listed}

-- g is the index of a listed code that is its own generic code
pub record OwnGeneric (g : ℕ) : Type 0 where
  pub inside : g < most_codes
  pub is_listed : 1 < number_at g
  pub own : generic_of (number_at g) ≡ g

-- the same as a test
abbrev own_test : ℕ → Bool
own_test g = ltb g most_codes && (listed (number_at g) && eqb (generic_of (number_at g)) g)

-- what each number must pass: not listed, no generic code, or a right one
abbrev right : ℕ → Bool
right n = not (listed n) || (eqb (generic_of n) no_generic || own_test (generic_of n))

all_right : every right code_table ≡ true
unfolding every annex char_value row_at one_of number_at code_table
all_right = refl

long : length code_table ≡ most_codes
unfolding code_table
long = refl

right_at : (i : ℕ) → i < most_codes → right (number_at i) ≡ true
unfolding code_table
right_at i h = ap right (sym (tabulate_at number_at most_codes i h)) ∙ every_at right code_table i (rw long h) all_right

from_test : (g : ℕ) → own_test g ≡ true → OwnGeneric g
from_test g h =
    let a = (and-eq-true_iff _ _).0 h in
    let b = (and-eq-true_iff _ _).0 a.1 in
    record { inside = ltb-true _ _ a.0; is_listed = ltb-true _ _ b.0; own = eqb-true _ _ b.1 }

-- a listed code's generic code, where it has one, is listed, and its own generic code is itself
pub generic_rule : (i : ℕ) → i < most_codes → 1 < number_at i → (generic_of (number_at i) ≡ no_generic → ⊥)
    → OwnGeneric (generic_of (number_at i))
generic_rule i h l g = from_test (generic_of (number_at i)) (rw (lt-ltb 1 (number_at i) l, ne_eqb (generic_of (number_at i)) no_generic g) at (right_at i h))

-- how many numbers of a list pass a test
abbrev pub count_of : (ℕ → Bool) → List ℕ → ℕ
count_of t [] = 0
count_of t (x ∷ xs) = pick (t x) (suc (count_of t xs)) (count_of t xs)

abbrev pub has_generic : ℕ → Bool
has_generic n = listed n && not (eqb (generic_of n) no_generic)

pub listed_codes : count_of listed code_table ≡ 102
unfolding annex char_value row_at one_of number_at code_table
listed_codes = refl

pub generic_codes : count_of has_generic code_table ≡ 82
unfolding annex char_value row_at one_of number_at code_table
generic_codes = refl
