-- Debit zeros: how one is found among the records of a body, and how a record that may have one is copied and compared.
use mathlib.Core.Path.{◌≡◌, refl, sym, ◌∙◌}
use mathlib.Core.Bool.{Bool, true, false, not, ◌&&◌}
use mathlib.Core.List.{List, [], ◌∷◌}
use Prim.Native.Nat.{ℕ}
use lib.ListN.{length, take, set}
use borrow.Author.Tests.{not-true}
use Rattle.zones.specs.Copy.{same_bytes}
use Rattle.zones.proofs.Bools.{and_left, and_right}
use Rattle.zones.proofs.Copies.{same_equal, equal_same}
use Rattle.std.specs.List.{list_all}
use Rattle.records.specs.July.{record_size, has_debit_zero, no_debit_zero}
use Rattle.records.proofs.Canon.{own_record, canon_set}
use Rattle.bodies.specs.Bodies.{kept, same_record}

-- none stands in a row of records
pub none_in : (ps : List (List ℕ)) → list_all (λ p. not (has_debit_zero (take record_size p))) ps ≡ no_debit_zero ps
unfolding no_debit_zero
none_in [] = refl
none_in (p ∷ ps) = rw (none_in ps)

-- a record copied, and position 104 written where there is a debit zero
module _ (r : List ℕ) (l : length r ≡ record_size) {x : List ℕ} {t : Bool} (e : x ≡ r) (h : t ≡ has_debit_zero r) where
  pub put_marked : t ≡ true → set x 103 123 ≡ kept r
  unfolding kept
  put_marked g = rw e (sym (canon_set r l ∙ rw (sym h ∙ g)))

  pub put_plain : t ≡ false → x ≡ kept r
  unfolding kept
  put_plain g = e ∙ sym (canon_set r l ∙ rw (sym h ∙ g))

-- the same bytes are kept alike
pub same_kept : (a b : List ℕ) {t : Bool} → t ≡ same_bytes a b → t ≡ true → true ≡ same_record a b
same_kept a b e h = sym (rw (same_equal a b (sym e ∙ h)) (equal_same (kept b)))

-- others, without a debit zero, are not
pub other_kept : (a b : List ℕ) {s t u : Bool} → length a ≡ record_size → length b ≡ record_size
    → s ≡ same_bytes a b → s ≡ false → t ≡ has_debit_zero a → u ≡ has_debit_zero b → (not t && not u) ≡ true → false ≡ same_record a b
unfolding kept
other_kept a b {s} {t} {u} l m e h p q n =
    let x = own_record a l (sym p ∙ not-true t (and_left (not t) _ n)) in
    let y = own_record b m (sym q ∙ not-true u (and_right (not t) _ n)) in
    sym (rw (x, y) (sym e ∙ h))
