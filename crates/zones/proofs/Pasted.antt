-- Pieces written one after another into a slice, each in the place of as many bytes.
use mathlib.Core.Path.{◌≡◌, refl, sym, ap, ap₂, ◌∙◌}
use mathlib.Core.List.{List, [], ◌∷◌, ◌++◌, append_assoc, append-nil}
use Prim.Native.Nat.{ℕ, ◌+◌, ◌≤◌}
use native.Mathlib.Omega.{arith}
use native.Mathlib.Nat.{add-zero, zero-add, add_assoc}
use lib.ListN.{length, take, drop, length-append, length-drop, take-append-drop, drop_of_length-le}
use lib.Seq.{drop-drop, length-take-le, take_at, drop_at}
use Rattle.zones.specs.Pieces.{flat}
use borrow.Rule.Slice.PartMut.{put_mid}

abbrev pub total : List ℕ → ℕ
total [] = 0
total (w ∷ ws) = w + total ws

-- what the code leaves: the pieces written from place p on
abbrev pub pasted : ℕ → List ℕ → List (List ℕ) → List ℕ → List ℕ
pasted p [] ys x = x
pasted p (w ∷ ws) [] x = x
pasted p (w ∷ ws) (y ∷ ys) x = pasted (p + w) ws ys (put_mid p w x y)

-- each piece has its width
abbrev pub Wide : List ℕ → List (List ℕ) → Type 0
Wide [] [] = Unit {0}
Wide [] (y ∷ ys) = ⊥
Wide (w ∷ ws) [] = ⊥
Wide (w ∷ ws) (y ∷ ys) = (length y ≡ w) × Wide ws ys

-- one piece
head_is : (p w : ℕ) (x y : List ℕ) → length y ≡ w → p + w ≤ length x → take (p + w) (put_mid p w x y) ≡ take p x ++ y
head_is p w x y e h =
    let t : length (take p x) ≡ p = length-take-le p x (omega arith) in
    sym (ap (take (p + w)) (append_assoc (take p x) y (drop w (drop p x)))) ∙ take_at (take p x ++ y) (drop w (drop p x)) (p + w) (omega (arith, length-append (take p x) y))

tail_is : (p w t : ℕ) (x y : List ℕ) → length y ≡ w → p + w ≤ length x → drop (p + w + t) (put_mid p w x y) ≡ drop (p + (w + t)) x
tail_is p w t x y e h =
    let l : length (take p x) ≡ p = length-take-le p x (omega arith) in
    let m : length (take p x ++ y) ≡ p + w = omega (arith, length-append (take p x) y) in
    rw (← drop-drop t (p + w) (put_mid p w x y), ← append_assoc (take p x) y (drop w (drop p x)), drop_at (take p x ++ y) (drop w (drop p x)) (p + w) m, drop-drop w p x, drop-drop t (p + w) x, add_assoc)

same_len : (p w : ℕ) (x y : List ℕ) → length y ≡ w → p + w ≤ length x → length (put_mid p w x y) ≡ length x
same_len p w x y e h =
    let t : length (take p x) ≡ p = length-take-le p x (omega arith) in
    omega (arith, length-append (take p x) (y ++ drop w (drop p x)), length-append y (drop w (drop p x)), length-drop w (drop p x), length-drop p x)

-- pieces that meet end to end leave their row, between what stood before and after
pasted_is : (p : ℕ) (ws : List ℕ) (ys : List (List ℕ)) (x : List ℕ) → Wide ws ys → p + total ws ≤ length x
    → pasted p ws ys x ≡ take p x ++ (flat ys ++ drop (p + total ws) x)
unfolding flat
pasted_is p [] [] x r h = sym (rw add-zero (take-append-drop p x))
pasted_is p [] (y ∷ ys) x r h = absurd r
pasted_is p (w ∷ ws) [] x r h = absurd r
pasted_is p (w ∷ ws) (y ∷ ys) x r h =
    pasted_is (p + w) ws ys (put_mid p w x y) r.1 (rw (same_len p w x y r.0 (omega arith)) (omega arith))
    ∙ rw (head_is p w x y r.0 (omega arith), tail_is p w (total ws) x y r.0 (omega arith), append_assoc (take p x) y, append_assoc y (flat ys))

-- pieces that fill a slice
pub filled : (ws : List ℕ) (ys : List (List ℕ)) (x : List ℕ) → Wide ws ys → length x ≡ total ws → pasted 0 ws ys x ≡ flat ys
filled ws ys x r h =
    let l : length x ≤ total ws = omega arith in
    pasted_is 0 ws ys x r (omega arith) ∙ rw (zero-add, drop_of_length-le x l) (append-nil (flat ys))

-- pieces end to end are as long as all together
pub length_pieces : (ws : List ℕ) (ys : List (List ℕ)) → Wide ws ys → length (flat ys) ≡ total ws
unfolding flat
length_pieces [] [] r = refl
length_pieces [] (y ∷ ys) r = absurd r
length_pieces (w ∷ ws) [] r = absurd r
length_pieces (w ∷ ws) (y ∷ ys) r = length-append y (flat ys) ∙ ap₂ ◌+◌ r.0 (length_pieces ws ys r.1)
