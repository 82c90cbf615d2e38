use mathlib.Core.Path.{sym, ◌∙◌}
use Rattle.bodies.proofs.Single.{judged, refused_alone}
use Rattle.bodies.proofs.is_single.Goals as goal

pub returns-in-Ok : goal.returns-in-Ok
returns-in-Ok c = record { answer = judged c.args.body.now (sym c.in-Ok.is ∙ c.check.ensures.answer) c.no_debit_zero.ensures }

pub returns-in-Err : goal.returns-in-Err
returns-in-Err c = record { answer = refused_alone c.args.body.now (sym c.in-Err.is ∙ c.check.ensures.answer) }
