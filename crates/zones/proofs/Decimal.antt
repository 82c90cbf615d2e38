-- Digits to a number and back, a number to digits and back, over the width.
use mathlib.Core.Path.{◌≡◌, refl, ap, sym, ◌∙◌}
use mathlib.Core.Bool.{true}
use mathlib.Core.List.{List, [], ◌∷◌, ◌++◌, append-nil}
use Prim.Native.Nat.{ℕ, zero, suc, ◌+◌, ◌-◌, ◌*◌, ◌/◌, ◌%◌, ◌^◌, ◌<◌, ◌≤◌}
use native.Mathlib.Nat.{pow-suc, pow-le-pow_right, not-suc-le-zero, add-zero, zero-add, mul-le-mul_right, mul_comm, mul_assoc, lt_of_lt_of_le, le_trans}
use native.Mathlib.Numerals.{add-one, sub-one}
use native.Mathlib.Omega.{arith}
use lib.Dec.{lit<}
use lib.ListN.{length, take, drop, get_or, set}
use lib.Seq.{length-take-le}
use Rattle.std.proofs.lemmas.List.{drop-set}
use Rattle.std.proofs.lemmas.List.Sums.{fold_more}
use Rattle.std.specs.List.{fold}
use Rattle.zones.specs.Class.{digit, between, every, all}
use Rattle.zones.specs.Number.{value_from, value_of, most_digits, digits_into, digits_of}
use Rattle.zones.proofs.Bools.{and_left, and_right, both}
use Rattle.zones.proofs.Every.{in_range, range_in}

-- one byte more is read
value_fold : (n : ℕ) (s : List ℕ) → value_from n s ≡ fold (λ m b. m * 10 + b % 16) n s
unfolding value_from
value_fold n [] = refl
value_fold n (b ∷ s) = value_fold (n * 10 + b % 16) s

pub value_more : (s : List ℕ) (i : ℕ) → i < length s → value_of (take (i + 1) s) ≡ value_of (take i s) * 10 + get_or s i 0 % 16
value_more s i h = rw (value_fold 0 (take (i + 1) s), value_fold 0 (take i s)) (fold_more (λ m b. m * 10 + b % 16) 0 s i 0 h)

-- one digit more is written
pub write_step : (out : List ℕ) (n i : ℕ) → 0 < i → i ≤ length out
    → digits_into (i - 1) (n / 10) (drop (i - 1) (set out (i - 1) (48 + n % 10))) ≡ digits_into i n (drop i out)
unfolding digits_into
write_step out n zero p q = absurd (not-suc-le-zero p)
write_step out n (suc j) p q = rw (sub-one, drop-set out j (48 + n % 10) q, add-one)

-- a number below 10 ^ w is what its w digits say
value_into : (w n : ℕ) (s : List ℕ) → n < 10 ^ w → value_from 0 (digits_into w n s) ≡ value_from n s
unfolding value_from digits_into
value_into zero n s h =
    let e : n ≡ 0 = omega arith in
    rw e
value_into (suc w) n s h =
    let q : n / 10 < 10 ^ w = omega (arith, pow-suc 10 w) in
    let e : n / 10 * 10 + (48 + n % 10) % 16 ≡ n = omega arith in
    value_into w (n / 10) ((48 + n % 10) ∷ s) q ∙ ap (λ (m : ℕ). value_from m s) e

pub value_digits : (w n : ℕ) → n < 10 ^ w → value_of (digits_of w n) ≡ n
unfolding value_from
value_digits w n h = value_into w n [] h

into_value : (k a : ℕ) (ds s : List ℕ) → all digit ds ≡ true → digits_into (k + length ds) (value_from a ds) s ≡ digits_into k a (ds ++ s)
unfolding value_from digits_into every
into_value k a [] s h = rw add-zero
into_value k a (d ∷ ds) s h =
    let r = in_range d (and_left (between 48 57 d) _ h) in
    let lo : 48 ≤ d = r.0 in
    let hi : d ≤ 57 = r.1 in
    let w : k + suc (length ds) ≡ suc k + length ds = omega arith in
    let q : (a * 10 + d % 16) / 10 ≡ a = omega arith in
    let e : 48 + (a * 10 + d % 16) % 10 ≡ d = omega arith in
    rw w (into_value (suc k) (a * 10 + d % 16) ds s (and_right (between 48 57 d) _ h) ∙ rw (q, e))

-- w digits are the w digits of their value
pub digits_value : (w : ℕ) (s : List ℕ) → length s ≡ w → all digit s ≡ true → digits_of w (value_of s) ≡ s
unfolding digits_into
digits_value w s e h = rw (← e) (rw zero-add at (into_value 0 0 s [] h) ∙ append-nil s)

length_into : (w n : ℕ) (s : List ℕ) → length (digits_into w n s) ≡ w + length s
unfolding digits_into
length_into zero n s = sym (zero-add (length s))
length_into (suc w) n s = length_into w (n / 10) ((48 + n % 10) ∷ s) ∙ omega arith

pub length_digits : (w n : ℕ) → length (digits_of w n) ≡ w
length_digits w n = length_into w n [] ∙ add-zero w

into_all : (w n : ℕ) (s : List ℕ) → all digit s ≡ true → all digit (digits_into w n s) ≡ true
unfolding digits_into every
into_all zero n s h = h
into_all (suc w) n s h =
    into_all w (n / 10) ((48 + n % 10) ∷ s) (both (range_in (48 + n % 10) (omega arith) (omega arith)) h)

-- what is written is digits
pub digits_all : (w n : ℕ) → all digit (digits_of w n) ≡ true
unfolding every
digits_all w n = into_all w n [] refl

-- digits are worth less than the next power of ten
below_from : (n : ℕ) (s : List ℕ) → all digit s ≡ true → value_from n s < (n + 1) * 10 ^ length s
unfolding value_from every
below_from n [] h = omega arith
below_from n (d ∷ s) h =
    let r = in_range d (and_left (between 48 57 d) _ h) in
    let lo : 48 ≤ d = r.0 in
    let hi : d ≤ 57 = r.1 in
    let P = 10 ^ length s in
    let le : (n * 10 + d % 16 + 1) * P ≤ (n + 1) * 10 * P = mul-le-mul_right P (omega arith) in
    let e : (n + 1) * 10 * P ≡ (n + 1) * 10 ^ suc (length s) = rw (pow-suc, mul_comm (10 ^ length s) 10, mul_assoc) in
    lt_of_lt_of_le (below_from (n * 10 + d % 16) s (and_right (between 48 57 d) _ h)) (rw e at le)

pub value_below : (s : List ℕ) → all digit s ≡ true → value_of s < 10 ^ length s
value_below s h = omega (arith, below_from 0 s h)

-- any bytes are worth less than twice the next power of ten
most_from : (n : ℕ) (s : List ℕ) → 3 * value_from n s + 5 ≤ (3 * n + 5) * 10 ^ length s
unfolding value_from
most_from n [] = omega arith
most_from n (d ∷ s) =
    let P = 10 ^ length s in
    let le : (3 * (n * 10 + d % 16) + 5) * P ≤ (3 * n + 5) * 10 * P = mul-le-mul_right P (omega arith) in
    let e : (3 * n + 5) * 10 * P ≡ (3 * n + 5) * 10 ^ suc (length s) = rw (pow-suc, mul_comm (10 ^ length s) 10, mul_assoc) in
    le_trans (most_from (n * 10 + d % 16) s) (rw e at le)

pub value_most : (s : List ℕ) → 3 * value_of s + 5 ≤ 5 * 10 ^ length s
value_most s = most_from 0 s

-- fewer bytes than the most leave room for one more
pub value_room : (s : List ℕ) (i : ℕ) → i < length s → length s ≤ most_digits → 3 * value_of (take i s) + 5 ≤ 5 * 10 ^ 18
value_room s i h g =
    let l : length (take i s) ≤ 18 = omega (arith, length-take-le i s) in
    le_trans (value_most (take i s)) (omega (arith, pow-le-pow_right {n = 10} (lit< tt) l))
