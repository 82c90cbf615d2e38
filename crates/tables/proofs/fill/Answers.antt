use Rattle.std.proofs.Common.{arith}
use Rattle.std.proofs.Math.Seq.{length-take-le}
use Rattle.tables.proofs.Filled.{fill_on, fill_end}
use Rattle.tables.proofs.fill.Goals as goal

pub loop-row-preserved : goal.loop-row-preserved
loop-row-preserved c =
    let l = c.loop-row in
    let k = length-take-le c.args.plan.rows c.args.table.now c.requires in
    rw c.row_step-step.ensures (fill_on c.args.plan.part.now c.args.form c.args.plan.at c.args.plan.rows l.p l.row-index l.row-items (omega arith) (omega arith) l.invariant)

pub returns : goal.returns
returns c =
    let l = c.loop-row in
    let k = length-take-le c.args.plan.rows c.args.table.now c.requires in
    fill_end c.args.plan.part.now c.args.form c.args.plan.at c.args.plan.rows l.p l.row-index l.row-items c.args.table.now (omega arith) (omega arith) l.invariant
