use mathlib.Core.Path.{ap, ◌∙◌}
use Rattle.layouts.specs.Zone.{is_date}
use Rattle.records.proofs.Looking.{dates_four, dates_other}
use Rattle.records.proofs.Seen.dates_fit.Goals as goal

pub returns-in-Movement : goal.returns-in-Movement
returns-in-Movement c = let s = c.args.self.now in dates_four s.r.now s.judged c.in-Movement.is s.exists (c.is_some.ensures ∙ ap is_date c.read.ensures.answer)

pub returns-in_default : goal.returns-in_default
returns-in_default c = let s = c.args.self.now in dates_other s.r.now s.judged c.in_default.not-Movement s.exists
