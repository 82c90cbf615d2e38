use mathlib.Core.Path.{sym, ◌∙◌}
use native.Mathlib.Omega.{arith}
use Rattle.collector.proofs.Rows.{some_entry, row_written}
use Rattle.collector.proofs.list_entry.Goals as goal

pub overflow_sub-entry : goal.overflow_sub-entry
overflow_sub-entry c = omega (arith, some_entry _ _ (sym c.in_ok-place.was ∙ c.listed_place.ensures.answer))

pub returns-clause-content : goal.returns-clause-content
returns-clause-content c = row_written _ _ _ (sym c.in_ok-place.was ∙ c.listed_place.ensures.answer) c.if-row-lt-ROW.false c.put_row.ensures
