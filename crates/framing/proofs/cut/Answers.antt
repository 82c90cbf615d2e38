use mathlib.Core.Path.{◌∙◌}
use Rattle.framing.proofs.Framing.{frame_length}
use Rattle.framing.proofs.cut.Goals as goal

pub returns : goal.returns
returns c = record { answer = c.cut_length.ensures.answer ∙ frame_length _ _ _ _ }
