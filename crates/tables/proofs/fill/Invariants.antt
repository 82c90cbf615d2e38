use Rattle.std.proofs.Common.{◌≡◌, ◌-◌, ◌++◌, take}
use Rattle.tables.specs.Steps.{rows_from}
use Rattle.tables.proofs.fill.Given as goal

abbrev pub invariant-loop-row : goal.invariant-loop-row
invariant-loop-row l = take l.row-index l.row-items ++ rows_from l.plan.part.now l.form l.p (l.plan.rows - l.row-index) ≡ rows_from l.plan.part.now l.form l.plan.at l.plan.rows
