-- Ordinals of some days, and of numbers that are none.
use mathlib.Core.Path.{◌≡◌, refl}
use mathlib.Core.List.{[], ◌∷◌, map}
use Rattle.dates.specs.Days.{days_in, exists, is_day}
use Rattle.dates.specs.Ordinals.{before_month, before_year, ordinal_of, of_ordinal, next_day}
use Rattle.dates.proofs.Ordinals.{of_ordinal_lem}

some : map ordinal_of (19800101 ∷ 19800229 ∷ 19800301 ∷ 19801231 ∷ 19810101 ∷ 20000229 ∷ 20000301 ∷ 20240101 ∷ 20250203 ∷ 20791231 ∷ [])
    ≡ 0 ∷ 59 ∷ 60 ∷ 365 ∷ 366 ∷ 7364 ∷ 7365 ∷ 16071 ∷ 16470 ∷ 36524 ∷ []
unfolding ordinal_of is_day exists days_in before_year before_month
some = refl

none : map ordinal_of (0 ∷ 19791231 ∷ 20250229 ∷ 20251301 ∷ 20250431 ∷ 20250100 ∷ 20800101 ∷ []) ≡ 36525 ∷ 36525 ∷ 36525 ∷ 36525 ∷ 36525 ∷ 36525 ∷ 36525 ∷ []
unfolding ordinal_of is_day exists days_in before_year before_month
none = refl

next : map next_day (19991231 ∷ 20000228 ∷ 20000229 ∷ 20010228 ∷ 20250430 ∷ []) ≡ 20000101 ∷ 20000229 ∷ 20000301 ∷ 20010301 ∷ 20250501 ∷ []
unfolding next_day days_in
next = refl

last : of_ordinal 36524 ≡ 20791231
unfolding ordinal_of is_day exists days_in before_year before_month
last = of_ordinal_lem 20791231 refl

past : of_ordinal 36525 ≡ 0
unfolding of_ordinal
past = refl
