-- The order of the numbers is the order of the days.
use mathlib.Core.Path.{◌≡◌}
use mathlib.Core.Logic.{◌↔◌, ⊎_elim, inl, inr}
use Prim.Native.Nat.{ℕ, ◌<◌}
use native.Mathlib.Decide.{dec_lt}
use native.Mathlib.Omega.{arith}
use Rattle.dates.specs.Days.{day_number, Before}

module _ (y m d y' m' d' : ℕ) (months : (m < 100) × (m' < 100)) (days : (d < 100) × (d' < 100)) where
  earlier_less : Before y m d y' m' d' → day_number y m d < day_number y' m' d'
  earlier_less = ⊎_elim (λ h. omega arith) (λ p. ⊎_elim (λ h. omega arith) (λ q. omega arith) p.1)

  less_earlier : day_number y m d < day_number y' m' d' → Before y m d y' m' d'
  less_earlier h = by_year (dec_lt y y')
    where
      by_month : y ≡ y' → Dec (m < m') → Before y m d y' m' d'
      by_month e (yes l) = inr (e, inl l)
      by_month e (no n) = inr (e, inr (omega arith, omega arith))

      by_year : Dec (y < y') → Before y m d y' m' d'
      by_year (yes l) = inl l
      by_year (no n) = by_month (omega arith) (dec_lt m m')

  -- one number is less than another exactly if its day is before the other's
  pub order : (day_number y m d < day_number y' m' d') ↔ Before y m d y' m' d'
  order = (less_earlier, earlier_less)
