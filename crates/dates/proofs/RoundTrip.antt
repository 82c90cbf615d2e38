-- What was read is written as it stood, and what is written reads back.
use mathlib.Core.Path.{◌≡◌, refl, sym, ◌∙◌}
use mathlib.Core.Bool.{Bool, true, false, ◌&&◌}
use mathlib.Core.List.{List, ◌++◌}
use Prim.Native.Nat.{ℕ, ◌+◌, ◌*◌, ◌/◌, ◌%◌, ◌<◌, ◌≤◌}
use native.Mathlib.Omega.{arith}
use lib.Arith.{digits_mod}
use lib.Dec.{leb, ltb, eqb}
use lib.ListN.{length, take, drop, length-drop, length-append, take-append-drop}
use lib.Seq.{length-take-le, take_all, drop-drop, take_at, drop_at}
use borrow.Author.Tests.{ltb-true, ltb-false, leb-true, le-leb, eqb-true}
use Rattle.zones.specs.Choice.{pick}
use Rattle.zones.specs.Class.{digit, in_class, all}
use Rattle.zones.specs.Number.{value_of, digits_of}
use Rattle.zones.proofs.Bools.{and_left, and_right, both}
use Rattle.zones.proofs.Every.{every_append, every_take, every_drop}
use Rattle.zones.proofs.Decimal.{value_below, digits_value, digits_all, length_digits, value_digits}
use Rattle.dates.specs.Days.{year_of, exists, day_number, day_of, date_of, is_day, date_text}
use Rattle.std.specs.Prelude.{Option, Some, None}

-- a choice that came out a day
was_day : (t : Bool) (a : Option ℕ) (k : ℕ) → pick t a None ≡ Some k → (t ≡ true) × (a ≡ Some k)
was_day true a k e = (refl, e)
was_day false a k e = let z : ◌≡◌ {A = ℕ} 0 1 = cc in absurd (omega arith)

same_number : (m k : ℕ) → Some m ≡ Some k → k ≡ m
same_number m k e = cc

-- two digits of a year
record Year (yy : ℕ) : Type 0 where
  low : 1980 ≤ year_of yy
  high : year_of yy ≤ 2079
  short : year_of yy % 100 ≡ yy

year : (yy : ℕ) → yy < 100 → Year yy
unfolding year_of
year yy h = by (ltb yy 80) refl
  where
    by : (t : Bool) → ltb yy 80 ≡ t → Year yy
    by true e = let l : yy < 80 = ltb-true _ _ e in record { low = rw e (omega arith); high = rw e (omega arith); short = rw e (omega arith) }
    by false e = let l : 80 ≤ yy = ltb-false _ _ e in record { low = rw e (omega arith); high = rw e (omega arith); short = rw e (omega arith) }

-- a year of the hundred has its two digits
full_year : (y : ℕ) → 1980 ≤ y → y ≤ 2079 → year_of (y % 100) ≡ y
unfolding year_of
full_year y a b = by (ltb (y % 100) 80) refl
  where
    by : (t : Bool) → ltb (y % 100) 80 ≡ t → pick t (2000 + y % 100) (1900 + y % 100) ≡ y
    by true e = let h : y % 100 < 80 = ltb-true _ _ e in omega arith
    by false e = let h : 80 ≤ y % 100 = ltb-false _ _ e in omega arith

-- six digits in three pairs
module _ (s : List ℕ) (l : length s ≡ 6) (h : all digit s ≡ true) where
  pub pair : (n : ℕ) → n ≤ 4 → length (take 2 (drop n s)) ≡ 2
  pair n g = length-take-le 2 (drop n s) (rw length-drop (omega arith))

  pub pair_digits : (n : ℕ) → all digit (take 2 (drop n s)) ≡ true
  pair_digits n = every_take (in_class digit) 2 (drop n s) (every_drop (in_class digit) n s h)

  pub pair_below : (n : ℕ) → n ≤ 4 → value_of (take 2 (drop n s)) < 100
  pair_below n g = rw (pair n g) at (value_below (take 2 (drop n s)) (pair_digits n))

  pair_back : (n : ℕ) → n ≤ 4 → digits_of 2 (value_of (take 2 (drop n s))) ≡ take 2 (drop n s)
  pair_back n g = digits_value 2 (take 2 (drop n s)) (pair n g) (pair_digits n)

  pairs : take 2 s ++ (take 2 (drop 2 s) ++ take 2 (drop 4 s)) ≡ s
  pairs =
      let e : length (drop 4 s) ≤ 2 = rw length-drop (omega arith) in
      rw (take_all 2 (drop 4 s) e, ← drop-drop 2 2 s, take-append-drop 2 (drop 2 s)) (take-append-drop 2 s)

  -- the number of a day that was read, and its pairs
  record Numbered (k : ℕ) : Type 0 where
    day : k % 100 ≡ value_of (take 2 s)
    month : k / 100 % 100 ≡ value_of (take 2 (drop 2 s))
    year_of : k / 10000 ≡ year_of (value_of (take 2 (drop 4 s)))

  numbered : (k : ℕ) → k ≡ day_number (year_of (value_of (take 2 (drop 4 s)))) (value_of (take 2 (drop 2 s))) (value_of (take 2 s)) → Numbered k
  numbered k e =
      let d = value_of (take 2 s) in
      let m = value_of (take 2 (drop 2 s)) in
      let y = year_of (value_of (take 2 (drop 4 s))) in
      let a : d < 100 = pair_below 0 (omega arith) in
      let b : m < 100 = pair_below 2 (omega arith) in
      let u : k / 100 ≡ y * 100 + m = omega arith in
      record { day = omega arith; month = rw u (digits_mod y b); year_of = omega arith }

-- the tests that a date that was read has passed
record Passed (s : List ℕ) (k : ℕ) : Type 0 where
  wide : length s ≡ 6
  digits : all digit s ≡ true
  real : exists (year_of (value_of (take 2 (drop 4 s)))) (value_of (take 2 (drop 2 s))) (value_of (take 2 s)) ≡ true
  number : k ≡ day_number (year_of (value_of (take 2 (drop 4 s)))) (value_of (take 2 (drop 2 s))) (value_of (take 2 s))

passed : (s : List ℕ) (k : ℕ) → date_of s ≡ Some k → Passed s k
unfolding date_of day_of
passed s k e =
    let o = was_day (eqb (length s) 6 && all digit s) _ k e in
    let p = was_day (exists (year_of (value_of (take 2 (drop 4 s)))) (value_of (take 2 (drop 2 s))) (value_of (take 2 s))) _ k o.1 in
    record {
      wide = eqb-true (length s) 6 (and_left (eqb (length s) 6) _ o.0);
      digits = and_right (eqb (length s) 6) _ o.0;
      real = p.0;
      number = same_number _ k p.1;
    }

-- what was read is written as it stood
pub text_read : (s : List ℕ) (k : ℕ) → date_of s ≡ Some k → date_text k ≡ s
unfolding date_text
text_read s k e =
    let p = passed s k e in
    let n = numbered s p.wide p.digits k p.number in
    let y = year (value_of (take 2 (drop 4 s))) (pair_below s p.wide p.digits 4 (omega arith)) in
    rw (
      n.day,
      n.month,
      n.year_of,
      y.short,
      pair_back s p.wide p.digits 0 (omega arith),
      pair_back s p.wide p.digits 2 (omega arith),
      pair_back s p.wide p.digits 4 (omega arith),
    )
    (pairs s p.wide p.digits)

-- and is the number of a day
pub read_day : (s : List ℕ) (k : ℕ) → date_of s ≡ Some k → is_day k ≡ true
unfolding is_day
read_day s k e =
    let p = passed s k e in
    let n = numbered s p.wide p.digits k p.number in
    let y = year (value_of (take 2 (drop 4 s))) (pair_below s p.wide p.digits 4 (omega arith)) in
    rw (n.year_of, n.month, n.day) (both (both (le-leb _ _ y.low) (le-leb _ _ y.high)) p.real)

pub length_text : (k : ℕ) → length (date_text k) ≡ 6
unfolding date_text
length_text k = rw (length-append, length-append, length_digits 2 (k % 100), length_digits 2 (k / 100 % 100), length_digits 2 (k / 10000 % 100))

pub text_digits : (k : ℕ) → all digit (date_text k) ≡ true
unfolding date_text
text_digits k =
    every_append (in_class digit) (digits_of 2 (k % 100)) _ (digits_all 2 (k % 100))
    (every_append (in_class digit) (digits_of 2 (k / 100 % 100)) _ (digits_all 2 (k / 100 % 100)) (digits_all 2 (k / 10000 % 100)))

-- the pairs of what is written
record Pairs (k : ℕ) : Type 0 where
  day : value_of (take 2 (date_text k)) ≡ k % 100
  month : value_of (take 2 (drop 2 (date_text k))) ≡ k / 100 % 100
  years : value_of (take 2 (drop 4 (date_text k))) ≡ k / 10000 % 100

text_pairs : (k : ℕ) → Pairs k
unfolding date_text
text_pairs k =
    let D = digits_of 2 (k % 100) in
    let M = digits_of 2 (k / 100 % 100) in
    let Y = digits_of 2 (k / 10000 % 100) in
    let a = drop_at D (M ++ Y) 2 (length_digits 2 (k % 100)) in
    let b : drop 4 (D ++ (M ++ Y)) ≡ Y = sym (drop-drop 2 2 (D ++ (M ++ Y))) ∙ rw a (drop_at M Y 2 (length_digits 2 (k / 100 % 100))) in
    record {
      day = rw (take_at D (M ++ Y) 2 (length_digits 2 (k % 100))) (value_digits 2 (k % 100) (omega arith));
      month = rw (a, take_at M Y 2 (length_digits 2 (k / 100 % 100))) (value_digits 2 (k / 100 % 100) (omega arith));
      years = rw (b, take_all 2 Y (omega (arith, length_digits 2 (k / 10000 % 100)))) (value_digits 2 (k / 10000 % 100) (omega arith));
    }

-- what is written reads back
pub read_text : (k : ℕ) → is_day k ≡ true → date_of (date_text k) ≡ Some k
unfolding date_of day_of is_day
read_text k h =
    let d = k % 100 in
    let m = k / 100 % 100 in
    let y = k / 10000 in
    let c = and_left (leb 1980 y && leb y 2079) _ h in
    let lo : 1980 ≤ y = leb-true 1980 y (and_left _ _ c) in
    let hi : y ≤ 2079 = leb-true y 2079 (and_right (leb 1980 y) _ c) in
    let q : k / 100 / 100 ≡ y = omega arith in
    let e : y * 10000 + m * 100 + d ≡ k = omega arith in
    let t = text_pairs k in
    rw (length_text k, text_digits k, t.day, t.month, t.years, full_year y lo hi, and_right (leb 1980 y && leb y 2079) _ h, e)
