-- A SPAN: a first and a last day, numbers YYYYMMDD, both counted.
use Rattle.std.specs.Prelude.{Bool, not, ◌&&◌, ◌||◌, List, [], ◌∷◌, ℕ, zero, suc, ◌+◌, ◌-◌, ltb}
use Rattle.zones.specs.Choice.{pick}
use Rattle.dates.specs.Days.{is_day}
use Rattle.dates.specs.Ordinals.{ordinal_of, of_ordinal, next_day}

-- up to 400 days
abbrev pub most_days : ℕ
most_days = 400

-- how many days from one day to another
abbrev pub span_days : (first last : ℕ) → ℕ
span_days first last = ordinal_of last + 1 - ordinal_of first

-- 27: a date that does not exist, an empty span, one that is too long
unfoldable pub no_span : (first last : ℕ) → Bool
no_span first last = not (is_day first && is_day last) || (ltb last first || ltb most_days (span_days first last))

-- a day and those that follow it, n in all
unfoldable pub days_from : (day n : ℕ) → List ℕ
days_from k zero = []
days_from k (suc n) = k ∷ days_from (next_day k) n

-- the day so many days after a day; 0, which is no day, where either is none
unfoldable pub later_day : (day after : ℕ) → ℕ
later_day k n = pick (is_day k) (of_ordinal (ordinal_of k + n)) 0
