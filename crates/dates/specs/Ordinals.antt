-- Days as ordinals: how many days lie between 1 January 1980 and a day.
use Rattle.std.specs.Prelude.{ℕ, zero, suc, ◌+◌, ◌-◌, ◌/◌, ◌%◌, ltb, Option, Some, None}
use Rattle.zones.specs.Choice.{pick}
use Rattle.dates.specs.Days.{days_in, day_number, is_day}

-- the days of a year that lie before a month (month 0 has none)
unfoldable pub before_month : (year month : ℕ) → ℕ
before_month y zero = 0
before_month y (suc m) = before_month y m + days_in y m

-- the days of the first n years from 1980 on
unfoldable pub before_year : ℕ → ℕ
before_year zero = 0
before_year (suc n) = before_year n + before_month (1980 + n) 13

-- the days before a day, from 1 January 1980 on
abbrev pub days_before : (year month day : ℕ) → ℕ
days_before y m d = before_year (y - 1980) + before_month y m + (d - 1)

-- the days from 1980 to 2079
abbrev pub all_days : ℕ
all_days = 36525

-- 31 December 2079: the years end there
abbrev pub last_day : ℕ
last_day = 20791231

-- the ordinal of a number YYYYMMDD: 0 to 36,524; a number of no day has 36,525
unfoldable pub ordinal_of : ℕ → ℕ
ordinal_of k = pick (is_day k) (days_before (k / 10000) (k / 100 % 100) (k % 100)) all_days

-- the ordinal of a day; none for a number that is none
abbrev pub ordinal_in : ℕ → Option ℕ
ordinal_in k = pick (is_day k) (Some (ordinal_of k)) None

-- the day after a day
abbrev pub next_in : (year month day : ℕ) → ℕ
next_in y m d = pick (ltb d (days_in y m)) (day_number y m (suc d)) (pick (ltb m 12) (day_number y (suc m) 1) (day_number (suc y) 1 1))

unfoldable pub next_day : ℕ → ℕ
next_day k = next_in (k / 10000) (k / 100 % 100) (k % 100)

-- so many days after 1 January 1980
unfoldable pub day_after : ℕ → ℕ
day_after zero = 19800101
day_after (suc n) = next_day (day_after n)

-- the day of an ordinal; 0, which is no day, for a number that is none
unfoldable pub of_ordinal : ℕ → ℕ
of_ordinal n = pick (ltb n all_days) (day_after n) 0

-- the day of an ordinal; none for a number that is none
abbrev pub day_at : ℕ → Option ℕ
day_at n = pick (ltb n all_days) (Some (of_ordinal n)) None
