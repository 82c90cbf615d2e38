-- A worked account: held from 1 January 2000 with 5, movements of 10, 100 and 1000 valued on 31 December 1999, that day and 1 January 1980.
use mathlib.Core.Path.{◌≡◌, refl}
use mathlib.Core.Bool.{true, false}
use mathlib.Core.List.{List, [], ◌∷◌, map}
use lib.IntN.{pos, negsuc}
use Rattle.dates.specs.Days.{days_in, exists, is_day}
use Rattle.dates.specs.Ordinals.{before_month, before_year, ordinal_of, next_day}
use Rattle.fields.specs.declared.Valued.{Valued}
use Rattle.cash.specs.Value.{total, chosen, value_at}
use Rattle.cash.specs.Spans.{span_days, no_span, days_from}
use Rattle.cash.specs.Buckets.{dated, running, bump, filled, opened}

abbrev worked : List Valued
worked = record { value = 19991231; amount = pos 10 } ∷ record { value = 20000101; amount = pos 100 } ∷ record { value = 19800101; amount = pos 1000 } ∷ []

-- 30 December 1999 to 2 January 2000
by_days : map (value_at (pos 5) worked) (days_from 19991230 4) ≡ pos 1005 ∷ pos 1015 ∷ pos 1115 ∷ pos 1115 ∷ []
unfolding days_from value_at chosen total next_day days_in
by_days = refl

by_the_table : running (pos 0) (filled (ordinal_of 19991230) (opened (pos 5) 3) (map dated worked)) ≡ pos 1005 ∷ pos 1015 ∷ pos 1115 ∷ pos 1115 ∷ []
unfolding running filled bump ordinal_of is_day exists days_in before_year before_month
by_the_table = refl

-- a debit valued on the last day of all
at_the_end : map (value_at (pos 5) (record { value = 20791231; amount = negsuc 9 } ∷ [])) (days_from 20791230 2) ≡ pos 5 ∷ negsuc 4 ∷ []
unfolding days_from value_at chosen total next_day days_in
at_the_end = refl

-- 400 days, and one more
longest : span_days 20240101 20250203 ≡ 400
unfolding ordinal_of is_day exists days_in before_year before_month
longest = refl

longest_taken : no_span 20240101 20250203 ≡ false
unfolding no_span ordinal_of is_day exists days_in before_year before_month
longest_taken = refl

too_long : no_span 20240101 20250204 ≡ true
unfolding no_span ordinal_of is_day exists days_in before_year before_month
too_long = refl

-- the first and the last day of all, and what lies beyond them
before_all : no_span 19791231 19800101 ≡ true
unfolding no_span is_day exists days_in
before_all = refl

after_all : no_span 20791231 20800101 ≡ true
unfolding no_span is_day exists days_in
after_all = refl

last_of_all : no_span 20791231 20791231 ≡ false
unfolding no_span ordinal_of is_day exists days_in before_year before_month
last_of_all = refl

-- no such day; last before first
no_such_day : no_span 20250229 20250301 ≡ true
unfolding no_span is_day exists days_in
no_such_day = refl

empty : no_span 20250302 20250301 ≡ true
unfolding no_span ordinal_of is_day exists days_in before_year before_month
empty = refl
