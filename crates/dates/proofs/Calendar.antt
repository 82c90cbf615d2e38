-- What the code computes: the year and the month of an ordinal, and the ordinal of a day.
use mathlib.Core.Path.{◌≡◌, refl, ap}
use mathlib.Core.Bool.{Bool, true, false}
use Prim.Native.Nat.{ℕ, suc, ◌+◌, ◌-◌, ◌*◌, ◌/◌, ◌%◌, ◌<◌, ◌≤◌}
use native.Mathlib.Decide.{dec_lt}
use native.Mathlib.Omega.{arith}
use lib.Dec.{eqb, ltb}
use borrow.Author.Tests.{eqb-true, eqb-false}
use Rattle.zones.specs.Choice.{pick}
use Rattle.std.specs.Prelude.{Option, Some, None, unwrap_or}
use Rattle.dates.specs.Answers.{Ordinal, OfOrdinal}
use Rattle.dates.specs.Days.{is_day}
use Rattle.dates.specs.Ordinals.{before_month, before_year, all_days, ordinal_of, of_ordinal}
use Rattle.dates.proofs.Months.{years, year_long, guess_first, guess_last}
use Rattle.dates.proofs.Ordinals.{parts, part_month, ordinal_is, found}

at_most : (t : Bool) → 365 + pick t 1 0 ≤ 366
at_most true = omega arith
at_most false = omega arith

-- the month of a day of the year: a quotient, or the next
module _ (y rest : ℕ) (h : y < 100) (l : rest < before_month (1980 + y) 13) where
  pub quotient : rest / 32 < 12
  quotient = omega (arith, l, year_long y h, at_most (eqb (y % 4) 0))

  pub month_next : (b : ℕ) → b ≡ before_month (1980 + y) (rest / 32 + 1 + 1) → b ≤ rest
      → (before_month (1980 + y) (rest / 32 + 1 + 1) ≤ rest) × (rest < before_month (1980 + y) (suc (rest / 32 + 1 + 1))) × (rest / 32 + 1 + 1 < 13)
  month_next b e g = by (dec_lt (rest / 32) 11)
    where
      by : Dec (rest / 32 < 11)
          → (before_month (1980 + y) (rest / 32 + 1 + 1) ≤ rest) × (rest < before_month (1980 + y) (suc (rest / 32 + 1 + 1))) × (rest / 32 + 1 + 1 < 13)
      by (yes a) =
          let f : suc (rest / 32 + 1 + 1) ≡ rest / 32 + 3 = omega arith in
          (omega arith, rw f (omega (arith, guess_last (1980 + y) (rest / 32) a)), omega arith)
      by (no a) =
          let f : rest / 32 + 1 + 1 ≡ 13 = omega (arith, quotient) in
          absurd (omega (arith, ap (before_month (1980 + y)) f))

  pub month_here : (b : ℕ) → b ≡ before_month (1980 + y) (rest / 32 + 1 + 1) → rest < b
      → (before_month (1980 + y) (rest / 32 + 1) ≤ rest) × (rest < before_month (1980 + y) (suc (rest / 32 + 1))) × (rest / 32 + 1 < 13)
  month_here b e g =
      let f : suc (rest / 32 + 1) ≡ rest / 32 + 1 + 1 = omega arith in
      (omega (arith, guess_first (1980 + y) (rest / 32) quotient), rw f (omega arith), omega (arith, quotient))

year_by : (n y : ℕ) (t : Bool) → eqb (y % 4) 0 ≡ t → y * 1461 ≤ n * 4 → n * 4 < y * 1461 + 1461 → n - (y * 365 + (y + 3) / 4) < 365 + pick t 1 0
year_by n y true e a b =
    let z : y % 4 ≡ 0 = eqb-true (y % 4) 0 e in
    let f : y ≡ y / 4 * 4 = omega arith in
    let g : (y + 3) / 4 ≡ y / 4 = omega arith in
    omega arith
year_by n y false e a b =
    let z : 0 < y % 4 = nonzero (y % 4) (eqb-false (y % 4) 0 e) in
    let f : y ≡ y / 4 * 4 + y % 4 = omega arith in
    let g : (y + 3) / 4 ≡ y / 4 + 1 = omega arith in
    omega arith
  where
    nonzero : (z : ℕ) → (z ≡ 0 → ⊥) → 0 < z
    nonzero z h = omega arith

pub year_found : (n : ℕ) → n < all_days → (n * 4 / 1461 < 100) × (n - (n * 4 / 1461 * 365 + (n * 4 / 1461 + 3) / 4) < before_month (1980 + n * 4 / 1461) 13)
year_found n h =
    let y = n * 4 / 1461 in
    let l : y < 100 = omega arith in
    (l, rw (year_long y l) (year_by n y (eqb (y % 4) 0) refl (omega arith) (omega arith)))

pub day_found : (n : ℕ) → n < all_days → (m b : ℕ) → before_month (1980 + n * 4 / 1461) m ≤ n - (n * 4 / 1461 * 365 + (n * 4 / 1461 + 3) / 4)
    → n - (n * 4 / 1461 * 365 + (n * 4 / 1461 + 3) / 4) < before_month (1980 + n * 4 / 1461) (suc m) → b ≡ before_month (1980 + n * 4 / 1461) m
    → (1980 + n * 4 / 1461) * 10000 + m * 100 + (n - (n * 4 / 1461 * 365 + (n * 4 / 1461 + 3) / 4) - b) + 1 ≡ of_ordinal n
day_found n h m b a g e =
    let y = n * 4 / 1461 in
    let l : y < 100 = omega arith in
    let rest = n - (y * 365 + (y + 3) / 4) in
    let t : n ≡ before_year y + rest = omega (arith, years y (omega arith)) in
    rw e (omega (arith, found n y m rest h l t a g))

pub ordinal_code : (k : ℕ) → is_day k ≡ true → (b : ℕ) → b ≡ before_month (1980 + (k / 10000 - 1980)) (k / 100 % 100)
    → (k / 10000 - 1980) * 365 + (k / 10000 - 1980 + 3) / 4 + b + (k % 100 - 1) ≡ ordinal_of k
ordinal_code k h b e =
    let p = parts k h in
    omega (arith, ordinal_is k h, e, years (k / 10000 - 1980) (omega (arith, p.high)))

pub ruleset month_found = (quotient, month_next, month_here)

pub ruleset day_of_ordinal = (year_found, day_found)

-- what the code takes apart of a day's number
module _ (k : ℕ) (h : is_day k ≡ true) where
  pub year_low : 1980 ≤ k / 10000
  year_low = (parts k h).low

  pub year_high : k / 10000 - 1980 < 100
  year_high = let p = parts k h in omega (arith, p.low, p.high)

  pub month_low : k / 100 % 100 < 14
  month_low = let p = parts k h in omega (arith, part_month k p)

  pub day_low : 1 ≤ k % 100
  day_low = (parts k h).first

pub ruleset ordinal_found = (year_low, year_high, month_low, day_low, ordinal_code)

-- with 36,525 for none, and with 0
pub ordinal_or : {k : ℕ} {r : Option ℕ} → Ordinal k r → unwrap_or r all_days ≡ ordinal_of k
unfolding ordinal_of
ordinal_or {k} g = rw g.answer (by (is_day k) refl)
  where
    by : (t : Bool) → is_day k ≡ t → unwrap_or (pick t (Some (ordinal_of k)) None) all_days ≡ ordinal_of k
    by true e = refl
    by false e = rw e

pub day_or : {n : ℕ} {r : Option ℕ} → OfOrdinal n r → unwrap_or r 0 ≡ of_ordinal n
unfolding of_ordinal
day_or {n} g = rw g.answer (by (ltb n all_days) refl)
  where
    by : (t : Bool) → ltb n all_days ≡ t → unwrap_or (pick t (Some (of_ordinal n)) None) 0 ≡ of_ordinal n
    by true e = refl
    by false e = rw e
