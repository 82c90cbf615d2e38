use Rattle.codes.proofs.table.Goals as goal
-- The constant is the table that annex 2 gives, number by number: antt computes both.
use mathlib.Core.Path.{refl}
use Rattle.codes.specs.Annex.{annex}
use Rattle.codes.specs.Code.{char_value, row_at, one_of, number_at, code_table}

pub returns : goal.returns
unfolding annex char_value row_at one_of number_at code_table
returns c = record { answer = refl }
