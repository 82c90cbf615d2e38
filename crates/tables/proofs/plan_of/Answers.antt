use mathlib.Core.Path.{refl, sym, ◌∙◌}
use Rattle.tables.proofs.Reading.{planned_rows, planned_short}
use Rattle.tables.proofs.plan_of.Goals as goal

pub returns-then-table-n : goal.returns-then-table-n
returns-then-table-n c =
    rw c.at.ensures.answer
    (planned_short c.args.form c.args.file.now c.args.k (sym c.in_ok-place.was ∙ c.statement_place.ensures.answer) c.args.table (rw c.part-part.ensures.answer at c.movements_in-n.ensures.answer) c.if-table-n.true)

pub returns : goal.returns
returns c =
    planned_rows c.args.form c.args.file.now c.args.k (sym c.in_ok-place.was ∙ c.statement_place.ensures.answer) c.args.table (rw c.part-part.ensures.answer at c.movements_in-n.ensures.answer) c.part-part.ensures.answer refl refl c.if-table-n.false
