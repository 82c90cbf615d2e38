use native.Mathlib.Omega.{arith}
use Rattle.journal_layout.proofs.Places.{body_inside, body_cut, no_body}
use mathlib.Core.Path.{sym, ◌∙◌}
use Rattle.journal_layout.proofs.entry.Goals as goal

pub overflow_add-result : goal.overflow_add-result
overflow_add-result c = omega (arith, body_inside c.args.journal.now c.args.e (sym c.in-Ok.is ∙ c.entry_place.ensures.answer))

pub slice_bounds-result-end : goal.slice_bounds-result-end
slice_bounds-result-end c = omega (arith, body_inside c.args.journal.now c.args.e (sym c.in-Ok.is ∙ c.entry_place.ensures.answer))

pub returns-in-Ok : goal.returns-in-Ok
returns-in-Ok c = record { answer = body_cut c.args.journal.now c.args.e (sym c.in-Ok.is ∙ c.entry_place.ensures.answer) }

pub returns-in-Err : goal.returns-in-Err
returns-in-Err c = record { answer = no_body c.args.journal.now c.args.e (sym c.in-Err.is ∙ c.entry_place.ensures.answer) }
