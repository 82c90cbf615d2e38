-- Equality of two rows of bytes as a test, and a copy into a lent part.
use Rattle.std.specs.Prelude.{ℕ, Bool, true, false, ◌&&◌, List, [], ◌∷◌, ◌++◌, eqb, length, take, drop}

unfoldable pub same_bytes : List ℕ → List ℕ → Bool
same_bytes [] [] = true
same_bytes [] (y ∷ ys) = false
same_bytes (x ∷ xs) [] = false
same_bytes (x ∷ xs) (y ∷ ys) = eqb x y && same_bytes xs ys

-- The bytes of src from the first on, as many as dst has room for. The rest of dst is untouched.
unfoldable pub copied : (src dst : List ℕ) → List ℕ
copied src dst = take (length dst) src ++ drop (length src) dst
