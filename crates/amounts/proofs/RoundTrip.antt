-- What is written reads back, and what was read is written as it stood, but for a debit zero.
use mathlib.Core.Path.{◌≡◌, refl, ap, sym, ◌∙◌}
use mathlib.Core.Bool.{Bool, true, false, ◌&&◌, false≢true}
use mathlib.Core.List.{List, [], ◌∷◌, ◌++◌}
use Prim.Native.Nat.{ℕ, zero, suc, ◌+◌, ◌*◌, ◌/◌, ◌%◌, ◌<◌, ◌≤◌}
use native.Mathlib.Omega.{arith}
use lib.Dec.{eqb}
use lib.ListN.{length, take, get_or, length-append}
use lib.Seq.{get_or_at, take_at, take-suc, take_all, length-take-le}
use lib.IntN.{ℤ, pos, negsuc, nat_abs}
use borrow.Author.Tests.{leb-true, le-leb, lt-ltb, ltb-true, eqb-true}
use Rattle.zones.specs.Choice.{pick}
use Rattle.zones.specs.Class.{digit, permitted, in_class, every, all}
use Rattle.zones.specs.Copy.{same_bytes}
use Rattle.zones.specs.Number.{value_of, value_from, digits_of, digits_into}
use Rattle.zones.proofs.Bools.{and_left, and_right, both}
use Rattle.zones.proofs.Copies.{same_equal}
use Rattle.zones.proofs.Every.{every_append, class_permitted}
use Rattle.zones.proofs.Decimal.{value_digits, digits_value, digits_all, length_digits, value_below}
use Rattle.amounts.specs.Amounts.{sign_index, sign_of, is_debit, magnitude, signed_of, is_amount, amount_of, most_amount, has_amount, is_negative, sign_byte, signed_text, amount_text, debit_zero, credit_zero, as_written}
use Rattle.std.specs.Prelude.{Some, None}
use Rattle.amounts.proofs.Whole.{nat_abs_signed}
use Rattle.amounts.proofs.Signs.{sign_byte_lem, byte_sign, sign_permitted}

length_signed : (d : Bool) (m : ℕ) → length (signed_text d m) ≡ 14
unfolding signed_text
length_signed d m = rw (length-append, length_digits 13 (m / 10))

pub length_text : (v : ℤ) → length (amount_text v) ≡ 14
length_text v = length_signed (is_negative v) (nat_abs v)

pub text_permitted : (v : ℤ) → all permitted (amount_text v) ≡ true
unfolding signed_text every
text_permitted v =
    let D = digits_of 13 (nat_abs v / 10) in
    every_append (in_class permitted) D (sign_byte (is_negative v) (nat_abs v % 10) ∷ []) (class_permitted digit D (digits_all 13 (nat_abs v / 10)))
    (both (sign_permitted (is_negative v) (nat_abs v % 10) (omega arith)) refl)

-- the tests and the value of a written amount
record Written (d : Bool) (m : ℕ) : Type 0 where
  first : take 13 (signed_text d m) ≡ digits_of 13 (m / 10)
  size : magnitude (signed_text d m) ≡ m
  side : is_debit (signed_text d m) ≡ d
  known : sign_of (signed_text d m) < 20

written : (d : Bool) (m : ℕ) → m ≤ most_amount → Written d m
unfolding signed_text sign_of is_debit magnitude
written d m h =
    let D = digits_of 13 (m / 10) in
    let b = sign_byte d (m % 10) in
    let l : length D ≡ 13 = length_digits 13 (m / 10) in
    let t : take 13 (D ++ (b ∷ [])) ≡ D = take_at D (b ∷ []) 13 l in
    let g : get_or (D ++ (b ∷ [])) 13 0 ≡ b = get_or_at D b [] 0 13 l in
    let s = sign_byte_lem d (m % 10) (omega arith) in
    let e : m / 10 * 10 + m % 10 ≡ m = omega arith in
    record {
      first = t;
      size = rw (t, g, value_digits 13 (m / 10) (omega arith), s.digit) e;
      side = rw g s.side;
      known = rw g s.known;
    }

read_signed : (d : Bool) (m : ℕ) → m ≤ most_amount → amount_of (signed_text d m) ≡ Some (signed_of d m)
unfolding amount_of
read_signed d m h =
    let w = written d m h in
    rw (length_signed d m, w.first, digits_all 13 (m / 10), lt-ltb _ _ w.known, w.side, w.size)

signed_back : (v : ℤ) → signed_of (is_negative v) (nat_abs v) ≡ v
signed_back (pos n) = refl
signed_back (negsuc n) = refl

-- what is written reads back
pub read_text : (v : ℤ) → has_amount v ≡ true → amount_of (amount_text v) ≡ Some v
unfolding has_amount
read_text v h = read_signed (is_negative v) (nat_abs v) (leb-true _ _ h) ∙ ap Some (signed_back v)

-- an amount that was read: its bytes passed the test, and the value is theirs
was_read : (s : List ℕ) (v : ℤ) → amount_of s ≡ Some v → (is_amount s ≡ true) × (v ≡ signed_of (is_debit s) (magnitude s))
unfolding amount_of
was_read s v = by (is_amount s) refl
  where
    by : (t : Bool) → is_amount s ≡ t → pick t (Some (signed_of (is_debit s) (magnitude s))) None ≡ Some v → (is_amount s ≡ true) × (v ≡ signed_of (is_debit s) (magnitude s))
    by true e h = (e, cc)
    by false e h = let z : ◌≡◌ {A = ℕ} 0 1 = cc in absurd (omega arith)

-- what the test says of the bytes
record Parts (s : List ℕ) : Type 0 where
  wide : length s ≡ 14
  digits : all digit (take 13 s) ≡ true
  known : sign_of s < 20

parts : (s : List ℕ) → is_amount s ≡ true → Parts s
parts s h =
    let a = and_left (eqb (length s) 14 && all digit (take 13 s)) _ h in
    record {
      wide = eqb-true (length s) 14 (and_left (eqb (length s) 14) _ a);
      digits = and_right (eqb (length s) 14) _ a;
      known = ltb-true (sign_of s) 20 (and_right (eqb (length s) 14 && all digit (take 13 s)) _ h);
    }

-- the bytes that passed are those of their magnitude and side
text_same : (s : List ℕ) → Parts s → signed_text (is_debit s) (magnitude s) ≡ s
unfolding signed_text sign_of is_debit magnitude
text_same s p =
    let b = get_or s 13 0 in
    let m = magnitude s in
    let n : 13 < length s = omega (arith, p.wide) in
    let r : m % 10 ≡ sign_of s % 10 = omega arith in
    let q : m / 10 ≡ value_of (take 13 s) = omega arith in
    let w : length (take 13 s) ≡ 13 = length-take-le 13 s (omega arith) in
    rw (r, q, byte_sign b p.known, digits_value 13 (take 13 s) w p.digits)
    (sym (take-suc s 13 0 n) ∙ take_all 14 s (omega (arith, p.wide)))

-- what does not tell the two zeros apart does not tell any bytes from their written form
pub alike : {A : Type 0} (g : List ℕ → A) → g credit_zero ≡ g debit_zero → (s : List ℕ) → g (as_written s) ≡ g s
unfolding as_written
alike g z s = by (same_bytes s debit_zero) refl
  where
    by : (t : Bool) → same_bytes s debit_zero ≡ t → g (pick t credit_zero s) ≡ g s
    by true e = z ∙ ap g (sym (same_equal s debit_zero e))
    by false e = refl

-- all bytes but those of a debit zero are written as they stand
pub stays : (s : List ℕ) → (s ≡ debit_zero → ⊥) → as_written s ≡ s
unfolding as_written
stays s f = by (same_bytes s debit_zero) refl
  where
    by : (t : Bool) → same_bytes s debit_zero ≡ t → pick t credit_zero s ≡ s
    by true e = absurd (f (same_equal s debit_zero e))
    by false e = refl

-- a debit zero is a debit, of no magnitude
zero_debit : is_debit debit_zero ≡ true
unfolding is_debit sign_of sign_index
zero_debit = refl

zero_size : magnitude debit_zero ≡ 0
unfolding magnitude sign_of sign_index value_from
zero_size = refl

-- it is written as a credit
pub zero_written : as_written debit_zero ≡ credit_zero
unfolding as_written same_bytes
zero_written = refl

-- a side and a magnitude, written by their value: as they are, but for a debit zero
text_signed : (d : Bool) (m : ℕ) → m ≤ most_amount → amount_text (signed_of d m) ≡ as_written (signed_text d m)
unfolding signed_text digits_into
text_signed true zero h = sym zero_written
text_signed true (suc m) h =
    sym (stays (signed_text true (suc m)) (λ e. let n : suc m ≡ 0 = sym (written true (suc m) h).size ∙ (ap magnitude e ∙ zero_size) in omega arith))
text_signed false m h =
    sym (stays (signed_text false m) (λ e. false≢true (sym (written false m h).side ∙ (ap is_debit e ∙ zero_debit))))

-- a magnitude of fourteen digits
bounded : (s : List ℕ) → Parts s → magnitude s ≤ most_amount
unfolding magnitude
bounded s p =
    let w : length (take 13 s) ≡ 13 = length-take-le 13 s (omega (arith, p.wide)) in
    let b = rw w at (value_below (take 13 s) p.digits) in
    omega (arith, b)

-- what was read is written as it stood, but for a debit zero
pub text_read : (s : List ℕ) (v : ℤ) → amount_of s ≡ Some v → amount_text v ≡ as_written s
text_read s v h =
    let r = was_read s v h in
    let p = parts s r.0 in
    rw r.1 (text_signed (is_debit s) (magnitude s) (bounded s p) ∙ ap as_written (text_same s p))

-- and is a value that has an amount
pub read_has : (s : List ℕ) (v : ℤ) → amount_of s ≡ Some v → has_amount v ≡ true
unfolding has_amount
read_has s v h =
    let r = was_read s v h in
    rw (r.1, nat_abs_signed (is_debit s) (magnitude s)) (le-leb (magnitude s) most_amount (bounded s (parts s r.0)))
