-- The twenty sign characters: the place of each, and the ranges in which they stand.
use mathlib.Core.Path.{◌≡◌, refl, sym, ◌∙◌}
use mathlib.Core.Bool.{Bool, true, false}
use mathlib.Core.List.{List, [], ◌∷◌}
use Prim.Native.Nat.{ℕ, suc, ◌+◌, ◌-◌, ◌%◌, ◌<◌, ◌≤◌}
use mathlib.Core.Logic.{◌⊎◌}
use Rattle.std.proofs.lemmas.Bool.Decides.{nat_tests}
use Rattle.std.specs.Prelude.{Some, None}
use native.Mathlib.Nat.{not-suc-le-zero, le_of_suc-le-suc}
use native.Mathlib.Omega.{arith}
use lib.Dec.{leb, eqb}
use lib.ListN.{length, get_or}
use borrow.Author.Tests.{eqb-true, le-leb, lt-leb}
use Rattle.zones.specs.Choice.{pick}
use Rattle.zones.specs.Class.{permitted, between, in_class, every, all}
use Rattle.zones.proofs.Every.{every_at}
use Rattle.zones.proofs.Table.{tabulate_at}
use Rattle.amounts.specs.Amounts.{signs, place_in, sign_index, sign_place, sign_byte}

-- the places by ranges, as the code tests them
abbrev ranged : ℕ → ℕ
ranged b =
    pick (eqb b 123) 0 (pick (eqb b 125) 10 (pick (between 65 73 b) (b - 65 + 1) (pick (between 74 82 b) (b - 74 + 11) 20)))

sign_ranged : (b : ℕ) → b < 256 → sign_index b ≡ ranged b
unfolding sign_index
sign_ranged b h = sym (tabulate_at sign_index 256 b h) ∙ tabulate_at ranged 256 b h

module _ (b : ℕ) where
  pub place_credit : 65 ≤ b → b < 74 → Some (b - 65 + 1) ≡ sign_place b
  place_credit h l = grind (arith, nat_tests, sign_ranged)

  pub place_debit : 74 ≤ b → b < 83 → Some (b - 74 + 11) ≡ sign_place b
  place_debit h l = grind (arith, nat_tests, sign_ranged)

  pub place_none : b < 256 → (b ≡ 123 → ⊥) → (b ≡ 125 → ⊥) → (b < 65) ⊎ (82 < b) → None ≡ sign_place b
  place_none h m n o = grind (arith, nat_tests, sign_ranged)

pub ruleset places = (place_credit, place_debit, place_none)

-- the place of each sign character is its number
index_sign : (k : ℕ) → k < 20 → sign_index (get_or signs k 0) ≡ k
unfolding sign_index
index_sign k h = sym (tabulate_at (λ (n : ℕ). sign_index (get_or signs n 0)) 20 k h) ∙ tabulate_at (λ (n : ℕ). n) 20 k h

pub record Signed (debit : Bool) (k b : ℕ) : Type 0 where
  pub digit : sign_index b % 10 ≡ k
  pub side : leb 10 (sign_index b) ≡ debit
  pub known : sign_index b < 20

-- a sign character says its side and its digit
pub sign_byte_lem : (debit : Bool) (k : ℕ) → k < 10 → Signed debit k (sign_byte debit k)
sign_byte_lem true k h =
    let e = index_sign (10 + k) (omega arith) in
    record { digit = rw e (omega arith); side = rw e (le-leb 10 (10 + k) (omega arith)); known = rw e (omega arith) }
sign_byte_lem false k h =
    let e = index_sign k (omega arith) in
    record { digit = rw e (omega arith); side = rw e (lt-leb 10 k (omega arith)); known = rw e (omega arith) }

placed : (xs : List ℕ) (b : ℕ) → place_in xs b < length xs → get_or xs (place_in xs b) 0 ≡ b
placed [] b h = absurd (not-suc-le-zero h)
placed (x ∷ xs) b h = by (eqb x b) refl h (placed xs b)
  where
    by : (t : Bool) → eqb x b ≡ t → pick t 0 (suc (place_in xs b)) < suc (length xs)
        → (place_in xs b < length xs → get_or xs (place_in xs b) 0 ≡ b) → get_or (x ∷ xs) (pick t 0 (suc (place_in xs b))) 0 ≡ b
    by true e h ih = eqb-true x b e
    by false e h ih = ih (le_of_suc-le-suc h)

-- and is the character of that side and digit
pub byte_sign : (b : ℕ) → sign_index b < 20 → sign_byte (leb 10 (sign_index b)) (sign_index b % 10) ≡ b
unfolding sign_index
byte_sign b h = sym (tabulate_at (λ (n : ℕ). sign_byte (leb 10 n) (n % 10)) 20 (sign_index b) h) ∙ placed signs b h

-- all of them are permitted bytes
signs_permitted : all permitted signs ≡ true
unfolding every
signs_permitted = refl

pub sign_permitted : (debit : Bool) (k : ℕ) → k < 10 → in_class permitted (sign_byte debit k) ≡ true
sign_permitted true k h = every_at (in_class permitted) signs (10 + k) (omega arith) signs_permitted
sign_permitted false k h = every_at (in_class permitted) signs k (omega arith) signs_permitted
