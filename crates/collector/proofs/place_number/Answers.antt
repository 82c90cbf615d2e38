use mathlib.Core.Path.{◌∙◌}
use Rattle.packing.proofs.Packing.{answered_fits}
use Rattle.collector.proofs.Packing.{lines_fits}
use Rattle.collector.proofs.place_number.Goals as goal

pub returns : goal.returns
returns c = c.answered.ensures.answer ∙ answered_fits (lines_fits c.requires)
