use mathlib.Core.Path.{◌∙◌}
use Rattle.readers.proofs.Walk.{ends_step, ends_none}
use Rattle.readers.proofs.after_statements.Goals as goal

pub loop-preserved : goal.loop-preserved
loop-preserved c = rw c.statement_end-at.ensures.answer (ends_step _ _ _ _ _ c.loop-test.true ∙ c.loop.invariant)

pub returns : goal.returns
returns c = ends_none _ _ _ _ _ c.loop-test.false ∙ c.loop.invariant
