-- Dates DDMMYY: which exist, and their numbers YYYYMMDD.
use Rattle.std.specs.Prelude.{◌≡◌, ◌⊎◌, Bool, ◌&&◌, ◌||◌, not, List, [], ◌∷◌, ◌++◌, ℕ, ◌+◌, ◌*◌, ◌/◌, ◌%◌, ◌<◌, leb, ltb, eqb, length, get_or, take, drop, Option, Some, None}
use Rattle.zones.specs.Choice.{pick}
use Rattle.zones.specs.Class.{digit, all}
use Rattle.zones.specs.Number.{value_of, digits_of}

-- YY 00 to 79 is 2000 to 2079, 80 to 99 is 1980 to 1999 (H)
unfoldable pub year_of : ℕ → ℕ
year_of yy = pick (ltb yy 80) (2000 + yy) (1900 + yy)

-- every fourth year, of the hundreds only every fourth
abbrev pub is_leap : ℕ → Bool
is_leap y = eqb (y % 4) 0 && (not (eqb (y % 100) 0) || eqb (y % 400) 0)

abbrev pub month_days : List ℕ
month_days = 0 ∷ 31 ∷ 28 ∷ 31 ∷ 30 ∷ 31 ∷ 30 ∷ 31 ∷ 31 ∷ 30 ∷ 31 ∷ 30 ∷ 31 ∷ []

-- the days of a month of a year; none for a number that is no month
unfoldable pub days_in : (year month : ℕ) → ℕ
days_in y m = pick (eqb m 2 && is_leap y) 29 (get_or month_days m 0)

-- the day exists
unfoldable pub exists : (year month day : ℕ) → Bool
exists y m d = leb 1 d && leb d (days_in y m)

-- YYYYMMDD
abbrev pub day_number : (year month day : ℕ) → ℕ
day_number y m d = y * 10000 + m * 100 + d

-- one day is before another
abbrev pub Before : (y m d y' m' d' : ℕ) → Type 0
Before y m d y' m' d' = (y < y') ⊎ ((y ≡ y') × ((m < m') ⊎ ((m ≡ m') × (d < d'))))

-- the number of a day that exists
unfoldable pub day_of : (year month day : ℕ) → Option ℕ
day_of y m d = pick (exists y m d) (Some (day_number y m d)) None

-- six digits, and a day that exists
unfoldable pub date_of : List ℕ → Option ℕ
date_of s =
    pick (eqb (length s) 6 && all digit s)
    (day_of (year_of (value_of (take 2 (drop 4 s)))) (value_of (take 2 (drop 2 s))) (value_of (take 2 s)))
    None

-- 9, or no refusal and the number; of what is no six digits 8 is given before, by the zone's own test
abbrev pub paper_date : Option ℕ → ℕ × ℕ
paper_date (Some k) = (0, k)
paper_date None = (9, 0)

-- a number YYYYMMDD of a day that exists, in the years 1980 to 2079
unfoldable pub is_day : ℕ → Bool
is_day k = (leb 1980 (k / 10000) && leb (k / 10000) 2079) && exists (k / 10000) (k / 100 % 100) (k % 100)

-- the six bytes of a number
unfoldable pub date_text : ℕ → List ℕ
date_text k = digits_of 2 (k % 100) ++ (digits_of 2 (k / 100 % 100) ++ digits_of 2 (k / 10000 % 100))

-- the number of a day goes into a part of six bytes
abbrev pub can_put : ℕ → List ℕ → Bool
can_put k out = eqb (length out) 6 && is_day k

unfoldable pub put_date : ℕ → List ℕ → List ℕ
put_date k out = pick (can_put k out) (date_text k) out
