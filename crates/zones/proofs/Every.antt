-- A test of every byte: as a fold, and what it says of parts and of classes.
use mathlib.Core.Path.{◌≡◌, refl, ap, ap₂, sym, ◌∙◌}
use mathlib.Core.Bool.{Bool, true, ◌&&◌, and_assoc, and-true}
use mathlib.Core.List.{List, [], ◌∷◌, ◌++◌}
use Prim.Native.Nat.{ℕ, zero, suc, ◌<◌, ◌≤◌}
use native.Mathlib.Nat.{not-suc-le-zero, le_of_suc-le-suc}
use native.Mathlib.Omega.{arith}
use lib.Dec.{leb}
use lib.ListN.{length, take, drop, get_or, replicate, take-append-drop}
use borrow.Author.Tests.{leb-true, le-leb}
use Rattle.std.proofs.lemmas.Bool.Decides.{nat_tests}
use Rattle.std.specs.List.{fold}
use Rattle.zones.specs.Class.{Class, digit, letter, alnum, blank, permitted, flag, between, in_class, every, all}
use Rattle.zones.proofs.Bools.{and_left, and_right, both}

module _ (p : ℕ → Bool) where
  -- what a fold of the tests comes to
  pub every_fold : (ok : Bool) (s : List ℕ) → fold (λ t b. t && p b) ok s ≡ (ok && every p s)
  unfolding every
  every_fold ok [] = sym (and-true ok)
  every_fold ok (b ∷ s) = every_fold (ok && p b) s ∙ and_assoc ok (p b) (every p s)

  -- two parts pass exactly if each does
  pub every_both : (a b : List ℕ) → every p (a ++ b) ≡ (every p a && every p b)
  unfolding every
  every_both [] b = refl
  every_both (x ∷ a) b = ap (λ t. p x && t) (every_both a b) ∙ sym (and_assoc (p x) (every p a) (every p b))

  pub every_append : (a b : List ℕ) → every p a ≡ true → every p b ≡ true → every p (a ++ b) ≡ true
  every_append a b g h = rw (every_both a b, g, h)

  parts : (n : ℕ) (s : List ℕ) → every p s ≡ true → (every p (take n s) && every p (drop n s)) ≡ true
  parts n s h = sym (every_both (take n s) (drop n s)) ∙ ap (every p) (take-append-drop n s) ∙ h

  pub every_take : (n : ℕ) (s : List ℕ) → every p s ≡ true → every p (take n s) ≡ true
  every_take n s h = and_left _ _ (parts n s h)

  pub every_drop : (n : ℕ) (s : List ℕ) → every p s ≡ true → every p (drop n s) ≡ true
  every_drop n s h = and_right (every p (take n s)) _ (parts n s h)

  -- each byte passes
  pub every_at : (s : List ℕ) (i : ℕ) → i < length s → every p s ≡ true → p (get_or s i 0) ≡ true
  unfolding every
  every_at [] i g h = absurd (not-suc-le-zero g)
  every_at (x ∷ s) zero g h = and_left (p x) _ h
  every_at (x ∷ s) (suc i) g h = every_at s i (le_of_suc-le-suc g) (and_right (p x) _ h)

  -- a weaker test is passed too
  pub every_weaker : (q : ℕ → Bool) → ((b : ℕ) → p b ≡ true → q b ≡ true) → (s : List ℕ) → every p s ≡ true → every q s ≡ true
  unfolding every
  every_weaker q f [] h = refl
  every_weaker q f (x ∷ s) h = both (f x (and_left (p x) _ h)) (every_weaker q f s (and_right (p x) _ h))

pub in_range : {lo hi : ℕ} (b : ℕ) → between lo hi b ≡ true → (lo ≤ b) × (b ≤ hi)
in_range {lo} {hi} b h = (leb-true lo b (and_left (leb lo b) _ h), leb-true b hi (and_right (leb lo b) _ h))

pub range_in : {lo hi : ℕ} (b : ℕ) → lo ≤ b → b ≤ hi → between lo hi b ≡ true
range_in {lo} {hi} b g h = both (le-leb lo b g) (le-leb b hi h)

-- a zone of any class has permitted bytes
pub class_permitted : (c : Class) (s : List ℕ) → all c s ≡ true → all permitted s ≡ true
class_permitted c s h = every_weaker (in_class c) (in_class permitted) (one c) s h
  where
    one : (c : Class) (b : ℕ) → in_class c b ≡ true → in_class permitted b ≡ true
    one digit b e = grind (arith, nat_tests)
    one letter b e = grind (arith, nat_tests)
    one alnum b e = grind (arith, nat_tests)
    one blank b e = grind (arith, nat_tests)
    one permitted b e = e
    one flag b e = grind (arith, nat_tests)

-- blanks are blanks
pub blanks_are : (s : List ℕ) → all blank s ≡ true → s ≡ replicate (length s) 32
unfolding every
blanks_are [] h = refl
blanks_are (b ∷ s) h =
    let r = in_range b (and_left (between 32 32 b) _ h) in
    ap₂ ◌∷◌ (omega (arith, r.0, r.1)) (blanks_are s (and_right (between 32 32 b) _ h))

pub are_blanks : (n : ℕ) → all blank (replicate n 32) ≡ true
unfolding every
are_blanks zero = refl
are_blanks (suc n) = are_blanks n
