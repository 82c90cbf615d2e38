-- What holds of every element of two lists end to end, and of every image.
use mathlib.Core.List.{List, [], ◌∷◌, ◌++◌, map}
use Rattle.framing.specs.Files.{All}

module _ {A : Type 0} (P : A → Type 0) where
  pub all_append : (xs ys : List A) → All P xs → All P ys → All P (xs ++ ys)
  all_append [] ys p q = q
  all_append (x ∷ xs) ys p q = (p.0, all_append xs ys p.1 q)

  pub all_left : (xs ys : List A) → All P (xs ++ ys) → All P xs
  all_left [] ys p = tt
  all_left (x ∷ xs) ys p = (p.0, all_left xs ys p.1)

  pub all_right : (xs ys : List A) → All P (xs ++ ys) → All P ys
  all_right [] ys p = p
  all_right (x ∷ xs) ys p = all_right xs ys p.1

module _ {A B : Type 0} (f : A → B) (P : A → Type 0) (Q : B → Type 0) where
  pub all_map : ((x : A) → P x → Q (f x)) → (xs : List A) → All P xs → All Q (map f xs)
  all_map g [] p = tt
  all_map g (x ∷ xs) p = (g x p.0, all_map g xs p.1)

  pub all_unmap : ((x : A) → Q (f x) → P x) → (xs : List A) → All Q (map f xs) → All P xs
  all_unmap g [] p = tt
  all_unmap g (x ∷ xs) p = (g x p.0, all_unmap g xs p.1)
