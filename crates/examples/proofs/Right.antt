-- Every marked example comes out as the paper says: one theorem, by computation from the definitions.
use mathlib.Core.Path.{◌≡◌, refl}
use mathlib.Core.List.{map}
use Rattle.zones.specs.Class.{every}
use Rattle.zones.specs.Number.{value_from}
use Rattle.amounts.specs.Amounts.{sign_index, sign_of, is_debit, magnitude, amount_of}
use Rattle.dates.specs.Days.{year_of, days_in, exists, day_of, date_of}
use Rattle.codes.specs.Annex.{annex}
use Rattle.codes.specs.Code.{char_value, row_at, one_of, number_at, code_table, number_in}
use Rattle.examples.specs.Worked.{Answer, worked}

pub worked_right : map (λ (r : Answer × Answer). r.0) worked ≡ map (λ (r : Answer × Answer). r.1) worked
unfolding every value_from sign_index sign_of is_debit magnitude amount_of year_of days_in exists day_of date_of annex char_value row_at one_of number_at code_table number_in
worked_right = refl
