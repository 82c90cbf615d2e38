use mathlib.Core.Path.{sym, ◌∙◌}
use Rattle.contents.proofs.Moving.{single_of, step_there}
use Rattle.contents.proofs.Part.found.Goals as goal

pub returns-in_err-step : goal.returns-in_err-step
returns-in_err-step c = absurd (step_there (single_of _ _ c.args.self.now.single).alone c.args.i (sym c.in_ok-at.was ∙ c.movement_place.ensures) (sym c.in_err-step.was ∙ c.movement_step.ensures.answer))
