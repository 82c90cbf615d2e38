use mathlib.Core.Path.{ap, ◌∙◌}
use native.Mathlib.Omega.{arith}
use Rattle.records.specs.Looks.{look_of}
use Rattle.readers.proofs.Walk.{end_after_lem}
use Rattle.contents.proofs.Passing.{begins, passes, ends}
use Rattle.contents.proofs.earliest_day.Goals as goal

pub loop-at-init : goal.loop-at-init
loop-at-init c = begins _ _

pub loop-at-smaller : goal.loop-at-smaller
loop-at-smaller c = omega (arith, c.statement_end-at.ensures.answer, end_after_lem c.args.form c.args.file.now c.loop-at.at c.loop-at-test.true)

pub loop-at-preserved : goal.loop-at-preserved
loop-at-preserved c = passes _ _ c.loop-at.invariant c.loop-at-test.true (c.look_at-opening.ensures.answer ∙ ap look_of c.record_at.ensures.answer) c.earlier-day.ensures c.statement_end-at.ensures.answer

pub returns : goal.returns
returns c = ends _ _ c.loop-at.invariant c.loop-at-test.false
