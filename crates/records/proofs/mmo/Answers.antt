use mathlib.Core.Path.{◌∙◌}
use Rattle.records.proofs.Looking.{qualifier}
use Rattle.records.proofs.mmo.Goals as goal

pub returns : goal.returns
returns c = c.same.ensures.answer ∙ qualifier c.args.r.now
