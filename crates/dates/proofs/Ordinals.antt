-- Ordinals go up by one from day to day: their order is that of the days, and each has its day.
use mathlib.Core.Path.{◌≡◌, refl, sym, ap, ◌∙◌}
use mathlib.Core.Logic.{◌↔◌, ⊎_elim}
use mathlib.Core.Bool.{Bool, true, false, ◌&&◌}
use Prim.Native.Nat.{ℕ, zero, suc, ◌+◌, ◌-◌, ◌*◌, ◌/◌, ◌%◌, ◌<◌, ◌≤◌}
use native.Mathlib.Decide.{dec_lt}
use native.Mathlib.Omega.{arith}
use lib.Arith.{digits_mod}
use lib.Dec.{leb, ltb, eqb}
use borrow.Author.Tests.{leb-true, leb-false, le-leb, lt-leb, eqb-true, eqb-false, eq-eqb, ne_eqb, ltb-true, ltb-false, lt-ltb}
use Rattle.zones.specs.Choice.{pick}
use Rattle.zones.proofs.Bools.{and_left, and_right, both}
use Rattle.dates.specs.Days.{days_in, exists, day_number, Before, is_day}
use Rattle.dates.proofs.Order.{order}
use Rattle.dates.specs.Ordinals.{before_month, before_year, all_days, last_day, ordinal_of, next_in, next_day, day_after, of_ordinal}
use Rattle.dates.proofs.Months.{years, later, is_month, month_days_lem, month_some, january, first_year}

-- a day of the year 1980 + n
pub record Real (n m d : ℕ) : Type 0 where
  pub year : n < 100
  pub first : 1 ≤ d
  pub last : d ≤ days_in (1980 + n) m

abbrev pub count : (n m d : ℕ) → ℕ
count n m d = before_year n + before_month (1980 + n) m + (d - 1)

month : {n m d : ℕ} → Real n m d → m < 13
month {n} {m} r = is_month (1980 + n) m (omega (arith, r.first, r.last))

short : {n m d : ℕ} → Real n m d → d ≤ 31
short {n} {m} r = omega (arith, r.last, month_days_lem (1980 + n) m (month r))

-- the parts of its number
record Split (n m d k : ℕ) : Type 0 where
  years_of : k / 10000 ≡ 1980 + n
  months_of : k / 100 % 100 ≡ m
  days_of : k % 100 ≡ d

split : (n m d : ℕ) → m < 100 → d < 100 → Split n m d (day_number (1980 + n) m d)
split n m d h g =
    let k = day_number (1980 + n) m d in
    let u : k / 100 ≡ (1980 + n) * 100 + m = omega arith in
    record { years_of = omega arith; months_of = rw u (digits_mod (1980 + n) h); days_of = omega arith }

pub record Numbered (n m d k : ℕ) : Type 0 where
  pub day : is_day k ≡ true
  pub ordinal : ordinal_of k ≡ count n m d

pub numbered : {n m d : ℕ} → Real n m d → Numbered n m d (day_number (1980 + n) m d)
unfolding is_day exists ordinal_of
numbered {n} {m} {d} r =
    let s = split n m d (omega (arith, month r)) (omega (arith, short r)) in
    let e : 1980 + n - 1980 ≡ n = omega arith in
    let t = both (both (le-leb 1980 (1980 + n) (omega arith)) (le-leb (1980 + n) 2079 (omega (arith, r.year)))) (both (le-leb 1 d r.first) (le-leb d (days_in (1980 + n) m) r.last)) in
    record { day = rw (s.years_of, s.months_of, s.days_of) t; ordinal = rw (s.years_of, s.months_of, s.days_of, t, e) }

-- the parts of a day's number
pub record Parts (k : ℕ) : Type 0 where
  pub low : 1980 ≤ k / 10000
  pub high : k / 10000 ≤ 2079
  pub first : 1 ≤ k % 100
  pub last : k % 100 ≤ days_in (k / 10000) (k / 100 % 100)

pub parts : (k : ℕ) → is_day k ≡ true → Parts k
unfolding is_day exists
parts k h =
    let y = k / 10000 in
    let c = and_left (leb 1980 y && leb y 2079) _ h in
    let x = and_right (leb 1980 y && leb y 2079) _ h in
    record {
      low = leb-true 1980 y (and_left _ _ c);
      high = leb-true y 2079 (and_right (leb 1980 y) _ c);
      first = leb-true 1 (k % 100) (and_left _ _ x);
      last = leb-true (k % 100) (days_in y (k / 100 % 100)) (and_right (leb 1 (k % 100)) _ x);
    }

pub part_month : (k : ℕ) → Parts k → k / 100 % 100 < 13
part_month k p = is_month (k / 10000) (k / 100 % 100) (omega (arith, p.first, p.last))

-- the ordinal of a day, and of what is none
pub ordinal_is : (k : ℕ) → is_day k ≡ true → ordinal_of k ≡ count (k / 10000 - 1980) (k / 100 % 100) (k % 100)
unfolding ordinal_of
ordinal_is k h =
    let p = parts k h in
    let e : 1980 + (k / 10000 - 1980) ≡ k / 10000 = omega (arith, p.low) in
    rw (h, e)

pub ordinal_none : (k : ℕ) → is_day k ≡ false → ordinal_of k ≡ all_days
unfolding ordinal_of
ordinal_none k h = rw h

-- a number of a day, as a day of a year
record Day (k : ℕ) : Type 0 where
  n : ℕ
  m : ℕ
  d : ℕ
  real : Real n m d
  number : k ≡ day_number (1980 + n) m d
  ordinal : ordinal_of k ≡ count n m d

day_of_lem : (k : ℕ) → is_day k ≡ true → Day k
day_of_lem k h =
    let y = k / 10000 in
    let p = parts k h in
    let e : 1980 + (y - 1980) ≡ y = omega (arith, p.low) in
    let q : k / 100 / 100 ≡ y = omega arith in
    record {
      n = y - 1980;
      m = k / 100 % 100;
      d = k % 100;
      real = record { year = omega (arith, p.low, p.high); first = p.first; last = rw e p.last };
      number = rw e (omega arith);
      ordinal = ordinal_is k h;
    }

-- before the month that follows, and before the year that follows
in_month : {n m d : ℕ} → Real n m d → count n m d < before_year n + before_month (1980 + n) (suc m)
unfolding before_month
in_month r = omega (arith, r.first, r.last)

months_up : (y m p : ℕ) → m ≤ p → before_month y m ≤ before_month y p
months_up y m p h =
    let e : m + (p - m) ≡ p = omega arith in
    rw e at (later y m (p - m))

in_year : {n m d : ℕ} → Real n m d → count n m d < before_year (suc n)
unfolding before_year
in_year {n} {m} r = omega (arith, in_month r, months_up (1980 + n) (suc m) 13 (month r))

years_up : (n p : ℕ) → n ≤ p → p < 101 → before_year n ≤ before_year p
years_up n p h g = omega (arith, years n (omega arith), years p g)

-- an earlier day has a smaller ordinal
less : {n m d n' m' d' : ℕ} → Real n m d → Real n' m' d' → Before (1980 + n) m d (1980 + n') m' d' → count n m d < count n' m' d'
less {n} {m} {d} {n'} {m'} {d'} r s =
    ⊎_elim (λ (h : 1980 + n < 1980 + n'). omega (arith, in_year r, years_up (suc n) n' (omega arith) (omega (arith, s.year))))
    (λ p. let e : n' ≡ n = omega arith in
    ⊎_elim (λ (h : m < m'). rw e (omega (arith, in_month r, months_up (1980 + n) (suc m) m' h))) (λ q. rw (e, sym q.0) (omega (arith, r.first, q.1))) p.1)

below_all : {n m d : ℕ} → Real n m d → count n m d < all_days
below_all {n} r = omega (arith, in_year r, years_up (suc n) 100 (omega (arith, r.year)) (omega arith), first_year)

pub ordinal_below : (k : ℕ) → is_day k ≡ true → ordinal_of k < all_days
ordinal_below k h = let a = day_of_lem k h in rw a.ordinal (below_all a.real)

module _ (k j : ℕ) (day : is_day k ≡ true) (day' : is_day j ≡ true) where
  pub ordinal_less : k < j → ordinal_of k < ordinal_of j
  ordinal_less h =
      let a = day_of_lem k day in
      let b = day_of_lem j day' in
      let g = order (1980 + a.n) a.m a.d (1980 + b.n) b.m b.d
      (omega (arith, month a.real), omega (arith, month b.real)) (omega (arith, short a.real), omega (arith, short b.real)) in
      rw (a.ordinal, b.ordinal) (less a.real b.real (g.0 (omega (arith, a.number, b.number))))

-- the order of the ordinals is the order of the days
pub ordinal_order : (k j : ℕ) → is_day k ≡ true → is_day j ≡ true → (k < j) ↔ (ordinal_of k < ordinal_of j)
ordinal_order k j day day' = (ordinal_less k j day day', back (dec_lt k j) (dec_lt j k))
  where
    back : Dec (k < j) → Dec (j < k) → ordinal_of k < ordinal_of j → k < j
    back (yes l) d h = l
    back (no g) (yes l) h = omega (arith, ordinal_less j k day' day l)
    back (no g) (no f) h = let e : k ≡ j = omega arith in omega (arith, h, ap ordinal_of e)

-- two days have two ordinals
pub ordinal_one : (k j : ℕ) → is_day k ≡ true → is_day j ≡ true → ordinal_of k ≡ ordinal_of j → k ≡ j
ordinal_one k j day day' e = by (dec_lt k j) (dec_lt j k)
  where
    by : Dec (k < j) → Dec (j < k) → k ≡ j
    by (yes l) d = absurd (omega (arith, ordinal_less k j day day' l))
    by (no g) (yes l) = absurd (omega (arith, ordinal_less j k day' day l))
    by (no g) (no f) = omega arith

-- the same as tests
pub ordinal_leb : (k j : ℕ) → is_day k ≡ true → is_day j ≡ true → leb (ordinal_of k) (ordinal_of j) ≡ leb k j
ordinal_leb k j day day' = by (leb k j) refl
  where
    by : (t : Bool) → leb k j ≡ t → leb (ordinal_of k) (ordinal_of j) ≡ t
    by true e = let o = (ordinal_order j k day' day).1 in le-leb _ _ (at_most (dec_lt (ordinal_of j) (ordinal_of k)) o (leb-true k j e))
      where
        at_most : Dec (ordinal_of j < ordinal_of k) → (ordinal_of j < ordinal_of k → j < k) → k ≤ j → ordinal_of k ≤ ordinal_of j
        at_most (yes l) f h = omega (arith, f l)
        at_most (no g) f h = omega arith
    by false e = lt-leb _ _ (ordinal_less j k day' day (leb-false k j e))

pub ordinal_eqb : (k j : ℕ) → is_day k ≡ true → is_day j ≡ true → eqb (ordinal_of k) (ordinal_of j) ≡ eqb k j
ordinal_eqb k j day day' = by (eqb k j) refl
  where
    by : (t : Bool) → eqb k j ≡ t → eqb (ordinal_of k) (ordinal_of j) ≡ t
    by true e = eq-eqb _ _ (ap ordinal_of (eqb-true k j e))
    by false e = ne_eqb _ _ (λ q. eqb-false k j e (ordinal_one k j day day' q))

-- the ends of months and years
month_end : (y b m d : ℕ) → d ≡ days_in y m → 1 ≤ d → b + before_month y (suc m) + (1 - 1) ≡ suc (b + before_month y m + (d - 1))
unfolding before_month
month_end y b m d e h = omega arith

year_end : (n m d : ℕ) → m ≡ 12 → d ≡ days_in (1980 + n) m → 1 ≤ d → before_year (suc n) ≡ suc (count n m d)
unfolding before_year before_month
year_end n m d w e h = rw w (omega (arith, e ∙ ap (days_in (1980 + n)) w, h))

fewer : (n : ℕ) → n < 100 → before_year (suc n) < all_days → suc n < 100
fewer n h g = by (dec_lt (suc n) 100)
  where
    by : Dec (suc n < 100) → suc n < 100
    by (yes l) = l
    by (no f) = let e : suc n ≡ 100 = omega arith in absurd (omega (arith, g, ap before_year e, first_year))

-- the next day's ordinal is one more
record Next (k c : ℕ) : Type 0 where
  day : is_day k ≡ true
  ordinal : ordinal_of k ≡ suc c

next_in_lem : {n m d : ℕ} → Real n m d → suc (count n m d) < all_days → Next (next_in (1980 + n) m d) (count n m d)
next_in_lem {n} {m} {d} r h = by (ltb d (days_in (1980 + n) m)) (ltb m 12) refl refl
  where
    by : (t u : Bool) → ltb d (days_in (1980 + n) m) ≡ t → ltb m 12 ≡ u
        → Next (pick t (day_number (1980 + n) m (suc d)) (pick u (day_number (1980 + n) (suc m) 1) (day_number (suc (1980 + n)) 1 1))) (count n m d)
    by true u e f =
        let q : Real n m (suc d) = record { year = r.year; first = omega arith; last = ltb-true _ _ e } in
        record { day = (numbered q).day; ordinal = (numbered q).ordinal ∙ omega (arith, r.first) }
    by false true e f =
        let l : d ≡ days_in (1980 + n) m = omega (arith, r.last, ltb-false d (days_in (1980 + n) m) e) in
        let g : suc m < 13 = omega (arith, ltb-true m 12 f) in
        let q : Real n (suc m) 1 = record { year = r.year; first = omega arith; last = month_some (1980 + n) m g } in
        record { day = (numbered q).day; ordinal = (numbered q).ordinal ∙ month_end (1980 + n) (before_year n) m d l r.first }
    by false false e f =
        let l : d ≡ days_in (1980 + n) m = omega (arith, r.last, ltb-false d (days_in (1980 + n) m) e) in
        let w : m ≡ 12 = omega (arith, ltb-false m 12 f, month r) in
        let z : before_year (suc n) ≡ suc (count n m d) = year_end n m d w l r.first in
        let g : suc n < 100 = fewer n r.year (omega (arith, z, h)) in
        let q : Real (suc n) 1 1 = record { year = g; first = omega arith; last = month_some (1980 + suc n) 0 (omega arith) } in
        let v : suc (1980 + n) ≡ 1980 + suc n = omega arith in
        rw v (record { day = (numbered q).day; ordinal = (numbered q).ordinal ∙ omega (arith, z, january (1980 + suc n)) })

next_at : {n m d : ℕ} (k : ℕ) → Real n m d → k ≡ day_number (1980 + n) m d → ordinal_of k ≡ count n m d → suc (count n m d) < all_days → Next (next_day k) (ordinal_of k)
unfolding next_day
next_at {n} {m} {d} k r e o h =
    let s = split n m d (omega (arith, month r)) (omega (arith, short r)) in
    rw (o, e, s.years_of, s.months_of, s.days_of) (next_in_lem r h)

module _ (k : ℕ) (day : is_day k ≡ true) (more : suc (ordinal_of k) < all_days) where
  next : Next (next_day k) (ordinal_of k)
  next = let a = day_of_lem k day in next_at k a.real a.number a.ordinal (rw a.ordinal at more)

  pub next_day_lem : is_day (next_day k) ≡ true
  next_day_lem = next.day

  pub next_ordinal : ordinal_of (next_day k) ≡ suc (ordinal_of k)
  next_ordinal = next.ordinal

-- each ordinal has its day
record After (n : ℕ) : Type 0 where
  day : is_day (day_after n) ≡ true
  ordinal : ordinal_of (day_after n) ≡ n

after : (n : ℕ) → n < all_days → After n
unfolding day_after
after zero h =
    let r : Real 0 1 1 = record { year = omega arith; first = omega arith; last = month_some 1980 0 (omega arith) } in
    let q = numbered r in
    record { day = q.day; ordinal = q.ordinal ∙ omega (arith, january 1980, years 0 (omega arith)) }
after (suc n) h =
    let a = after n (omega arith) in
    let m : suc (ordinal_of (day_after n)) < all_days = rw a.ordinal h in
    record { day = next_day_lem (day_after n) a.day m; ordinal = next_ordinal (day_after n) a.day m ∙ ap suc a.ordinal }

-- both round trips
pub of_ordinal_day : (n : ℕ) → n < all_days → is_day (of_ordinal n) ≡ true
unfolding of_ordinal
of_ordinal_day n h = rw (lt-ltb n all_days h) (after n h).day

pub ordinal_of_lem : (n : ℕ) → n < all_days → ordinal_of (of_ordinal n) ≡ n
unfolding of_ordinal
ordinal_of_lem n h = rw (lt-ltb n all_days h) (after n h).ordinal

pub of_ordinal_lem : (k : ℕ) → is_day k ≡ true → of_ordinal (ordinal_of k) ≡ k
of_ordinal_lem k h =
    let l = ordinal_below k h in
    ordinal_one (of_ordinal (ordinal_of k)) k (of_ordinal_day (ordinal_of k) l) h (ordinal_of_lem (ordinal_of k) l)

-- the day of a year that an ordinal falls on
pub found : (n y m rest : ℕ) → n < all_days → y < 100 → n ≡ before_year y + rest → before_month (1980 + y) m ≤ rest → rest < before_month (1980 + y) (suc m)
    → day_number (1980 + y) m (suc (rest - before_month (1980 + y) m)) ≡ of_ordinal n
unfolding before_month
found n y m rest h l e a b =
    let r : Real y m (suc (rest - before_month (1980 + y) m)) = record { year = l; first = omega arith; last = omega arith } in
    let q = numbered r in
    ordinal_one _ (of_ordinal n) q.day (of_ordinal_day n h) (q.ordinal ∙ omega arith ∙ sym (ordinal_of_lem n h))

-- a number has an ordinal below that of none exactly if it is a day
pub ordinal_day : (k : ℕ) → ordinal_of k < all_days → is_day k ≡ true
ordinal_day k h = by (is_day k) refl
  where
    by : (t : Bool) → is_day k ≡ t → t ≡ true
    by true e = refl
    by false e = absurd (omega (arith, h, ordinal_none k e))

-- the last of all days, and its ordinal
pub last_day_lem : is_day last_day ≡ true
unfolding is_day exists days_in
last_day_lem = refl

pub last_ordinal : suc (ordinal_of last_day) ≡ all_days
unfolding ordinal_of is_day exists days_in before_year before_month
last_ordinal = refl

-- every day before it has a next one
pub not_last : (k : ℕ) → is_day k ≡ true → k < last_day → suc (ordinal_of k) < all_days
not_last k h l = omega (arith, ordinal_less k last_day h last_day_lem l, last_ordinal)
