-- Laws of tests.
use mathlib.Core.Path.{◌≡◌, refl}
use mathlib.Core.Bool.{Bool, true, false, ◌&&◌, ◌||◌, false≢true}
pub use mathlib.Core.Bool.{and_assoc, and-true as and_one}

pub and_left : (a b : Bool) → (a && b) ≡ true → a ≡ true
and_left true b h = refl
and_left false b h = h

pub and_right : (a b : Bool) → (a && b) ≡ true → b ≡ true
and_right true b h = h
and_right false b h = absurd (false≢true h)

pub both : {a b : Bool} → a ≡ true → b ≡ true → (a && b) ≡ true
both p q = rw p q

-- a test made of two, side by side
pub conj : {a b x y : Bool} → a ≡ x → b ≡ y → (a && b) ≡ (x && y)
conj p q = rw (p, q)

pub disj : {a b x y : Bool} → a ≡ x → b ≡ y → (a || b) ≡ (x || y)
disj p q = rw (p, q)

-- either side of an `or` shows what both show
pub either : {c : Bool} (a b : Bool) → (a ≡ true → c ≡ true) → (b ≡ true → c ≡ true) → (a || b) ≡ true → c ≡ true
either true b f g h = f refl
either false b f g h = g h
