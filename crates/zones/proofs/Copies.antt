-- Two rows of bytes compared byte by byte, and a copy.
use mathlib.Core.Path.{◌≡◌, refl, sym, ap, ap₂, ◌∙◌}
use mathlib.Core.Bool.{Bool, true, false, ◌&&◌, and_assoc, and-true}
use mathlib.Core.List.{List, [], ◌∷◌, ◌++◌, append-nil}
use Prim.Native.Nat.{ℕ, ◌≤◌, min}
use native.Mathlib.Nat.{min_comm}
use native.Mathlib.Omega.{arith}
use lib.Dec.{eqb}
use lib.ListN.{length, take, drop, drop_of_length-le}
use lib.Seq.{take_all}
use Rattle.std.proofs.lemmas.List.{take_min, drop_min}
use Rattle.std.proofs.lemmas.Slice.Eq.{bytes_eq-Decides}
use Rattle.std.specs.Cmp.Lexicographic.{pointwise}
use Rattle.std.specs.List.{fold, zip}
use Rattle.zones.specs.Copy.{same_bytes, copied}

-- the test is the library's equality of two slices
same_pointwise : (a b : List ℕ) → pointwise eqb a b ≡ same_bytes a b
unfolding same_bytes
same_pointwise [] [] = refl
same_pointwise [] (y ∷ b) = refl
same_pointwise (x ∷ a) [] = refl
same_pointwise (x ∷ a) (y ∷ b) = ap (λ t. eqb x y && t) (same_pointwise a b)

-- the test is passed exactly by equal rows
pub same_equal : (a b : List ℕ) → same_bytes a b ≡ true → a ≡ b
same_equal a b h = (bytes_eq-Decides a b).0 (same_pointwise a b ∙ h)

pub equal_same : (a : List ℕ) → same_bytes a a ≡ true
equal_same a = sym (same_pointwise a a) ∙ (bytes_eq-Decides a a).1 refl

-- rows of other lengths are not the same
pub other_length : (a b : List ℕ) → (length a ≡ length b → ⊥) → false ≡ same_bytes a b
other_length a b h = by (same_bytes a b) refl
  where
    by : (t : Bool) → same_bytes a b ≡ t → false ≡ t
    by true e = absurd (h (ap length (same_equal a b e)))
    by false e = refl

-- what a fold over the pairs comes to
pub same_fold : (ok : Bool) (a b : List ℕ) → length a ≡ length b → fold (λ t q. t && eqb q.0 q.1) ok (zip a b) ≡ (ok && same_bytes a b)
unfolding same_bytes
same_fold ok [] [] h = sym (and-true ok)
same_fold ok [] (y ∷ b) h = absurd (omega arith)
same_fold ok (x ∷ a) [] h = absurd (omega arith)
same_fold ok (x ∷ a) (y ∷ b) h = same_fold (ok && eqb x y) a b (omega arith) ∙ and_assoc ok (eqb x y) (same_bytes a b)

-- the copy of as many bytes as both have
pub copied_parts : (src dst : List ℕ) → take (min (length dst) (length src)) src ++ drop (min (length dst) (length src)) dst ≡ copied src dst
unfolding copied
copied_parts src dst = ap₂ ◌++◌ (take_min (length dst) src) (rw min_comm (drop_min (length src) dst))

-- a copy into a part of the same length is the part's whole content
pub copied_whole : (src dst : List ℕ) → length src ≡ length dst → copied src dst ≡ src
unfolding copied
copied_whole src dst e =
    let a : length src ≤ length dst = omega arith in
    let b : length dst ≤ length src = omega arith in
    rw (take_all (length dst) src a, drop_of_length-le dst b) (append-nil src)
