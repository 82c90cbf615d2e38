-- Months and years in numbers.
use mathlib.Core.Path.{◌≡◌, refl, sym, ◌∙◌}
use mathlib.Core.Bool.{Bool, true, false, ◌&&◌}
use mathlib.Core.List.{List, [], ◌∷◌}
use Prim.Native.Nat.{ℕ, zero, suc, ◌+◌, ◌*◌, ◌/◌, ◌%◌, ◌<◌, ◌≤◌}
use native.Mathlib.Nat.{add-zero, add-suc}
use native.Mathlib.Decide.{dec_lt}
use native.Mathlib.Omega.{arith}
use lib.Dec.{leb, ltb, eqb}
use lib.ListN.{get_or, get_or-eq_default}
use borrow.Author.Tests.{leb-true, eqb-true, ne_eqb}
use Rattle.zones.specs.Choice.{pick}
use Rattle.dates.specs.Days.{is_leap, month_days, days_in}
use Rattle.dates.specs.Ordinals.{before_month, before_year, all_days}
use Rattle.dates.proofs.Below.{below_at}

-- the days before each year
pub years : (n : ℕ) → n < 101 → before_year n ≡ n * 365 + (n + 3) / 4
unfolding before_year before_month days_in
years n h = eqb-true _ _ (below_at (λ (i : ℕ). eqb (before_year i) (i * 365 + (i + 3) / 4)) 101 refl n h)

-- every fourth year is a leap year
same : Bool → Bool → Bool
same true b = b
same false true = false
same false false = true

same_is : (a b : Bool) → same a b ≡ true → a ≡ b
unfolding same
same_is true true h = refl
same_is true false h = sym h
same_is false true h = h
same_is false false h = refl

leap : (n : ℕ) → n < 100 → is_leap (1980 + n) ≡ eqb (n % 4) 0
unfolding same
leap n h = same_is _ _ (below_at (λ (i : ℕ). same (is_leap (1980 + i)) (eqb (i % 4) 0)) 100 refl n h)

-- the days before a month, in a leap year and in another
days : Bool → ℕ → ℕ
days l m = pick (eqb m 2 && l) 29 (get_or month_days m 0)

before : Bool → ℕ → ℕ
before l zero = 0
before l (suc m) = before l m + days l m

before_is : (y m : ℕ) → before_month y m ≡ before (is_leap y) m
unfolding before_month before days days_in
before_is y zero = refl
before_is y (suc m) = rw (before_is y m)

abbrev pub plain_table : List ℕ
plain_table = 0 ∷ 0 ∷ 31 ∷ 59 ∷ 90 ∷ 120 ∷ 151 ∷ 181 ∷ 212 ∷ 243 ∷ 273 ∷ 304 ∷ 334 ∷ 365 ∷ []

table : (l : Bool) (m : ℕ) → m < 14 → before l m ≡ get_or plain_table m 0 + pick (l && ltb 2 m) 1 0
unfolding before days
table true m h = eqb-true _ _ (below_at (λ (i : ℕ). eqb (before true i) (get_or plain_table i 0 + pick (ltb 2 i) 1 0)) 14 refl m h)
table false m h = eqb-true _ _ (below_at (λ (i : ℕ). eqb (before false i) (get_or plain_table i 0 + 0)) 14 refl m h)

-- the code's table
pub months : (n m : ℕ) → n < 100 → m < 14 → before_month (1980 + n) m ≡ get_or plain_table m 0 + pick (eqb (n % 4) 0 && ltb 2 m) 1 0
months n m h g = before_is (1980 + n) m ∙ rw (leap n h) (table (eqb (n % 4) 0) m g)

pub small : (m : ℕ) → m < 14 → get_or plain_table m 0 ≤ 365
small m h = leb-true _ _ (below_at (λ (i : ℕ). leb (get_or plain_table i 0) 365) 14 refl m h)

-- later months have more days before them
pub later : (y m j : ℕ) → before_month y m ≤ before_month y (m + j)
unfolding before_month
later y m zero = rw (add-zero m) (omega arith)
later y m (suc j) = rw (add-suc m j) (omega (arith, later y m j))

-- where the month of a day lies: what counts 32 days to a month is at most one behind
first : (l : Bool) (q : ℕ) → q < 12 → before l (q + 1) ≤ q * 32
unfolding before days
first true q h = leb-true _ _ (below_at (λ (i : ℕ). leb (before true (i + 1)) (i * 32)) 12 refl q h)
first false q h = leb-true _ _ (below_at (λ (i : ℕ). leb (before false (i + 1)) (i * 32)) 12 refl q h)

last : (l : Bool) (q : ℕ) → q < 11 → q * 32 + 32 ≤ before l (q + 3)
unfolding before days
last true q h = leb-true _ _ (below_at (λ (i : ℕ). leb (i * 32 + 32) (before true (i + 3))) 11 refl q h)
last false q h = leb-true _ _ (below_at (λ (i : ℕ). leb (i * 32 + 32) (before false (i + 3))) 11 refl q h)

pub guess_first : (y q : ℕ) → q < 12 → before_month y (q + 1) ≤ q * 32
guess_first y q h = rw (before_is y (q + 1)) (first (is_leap y) q h)

pub guess_last : (y q : ℕ) → q < 11 → q * 32 + 32 ≤ before_month y (q + 3)
guess_last y q h = rw (before_is y (q + 3)) (last (is_leap y) q h)

-- a year is 365 days long, or 366
pub year_long : (n : ℕ) → n < 100 → before_month (1980 + n) 13 ≡ 365 + pick (eqb (n % 4) 0) 1 0
year_long n h = months n 13 h (omega arith) ∙ by (eqb (n % 4) 0)
  where
    by : (t : Bool) → 365 + pick (t && true) 1 0 ≡ 365 + pick t 1 0
    by true = refl
    by false = refl

-- a month with a day is one of the twelve, and has at most 31
pub is_month : (y m : ℕ) → 1 ≤ days_in y m → m < 13
unfolding days_in
is_month y m h = by (dec_lt m 13)
  where
    by : Dec (m < 13) → m < 13
    by (yes l) = l
    by (no g) =
        let l : 13 ≤ m = omega arith in
        let e : days_in y m ≡ 0 = rw (ne_eqb m 2 (λ q. omega arith)) (get_or-eq_default month_days 0 l) in
        omega arith

at_most : (l : Bool) (m : ℕ) → m < 13 → days l m ≤ 31
unfolding days
at_most true m h = leb-true _ _ (below_at (λ (i : ℕ). leb (days true i) 31) 13 refl m h)
at_most false m h = leb-true _ _ (below_at (λ (i : ℕ). leb (days false i) 31) 13 refl m h)

pub month_days_lem : (y m : ℕ) → m < 13 → days_in y m ≤ 31
unfolding days_in days
month_days_lem y m h = at_most (is_leap y) m h

-- nothing before January
pub january : (y : ℕ) → before_month y 1 ≡ 0
unfolding before_month days_in
january y = refl

-- each month has a day
some : (l : Bool) (m : ℕ) → suc m < 13 → 1 ≤ days l (suc m)
unfolding days
some true m h = leb-true _ _ (below_at (λ (i : ℕ). leb 1 (days true (suc i))) 12 refl m (omega arith))
some false m h = leb-true _ _ (below_at (λ (i : ℕ). leb 1 (days false (suc i))) 12 refl m (omega arith))

pub month_some : (y m : ℕ) → suc m < 13 → 1 ≤ days_in y (suc m)
unfolding days_in days
month_some y m h = some (is_leap y) m h

pub first_year : before_year 100 ≡ all_days
unfolding before_year before_month days_in
first_year = refl

pub ruleset counted = (months, small)
