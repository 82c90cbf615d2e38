use mathlib.Core.Path.{sym, ◌∙◌}
use Rattle.std.proofs.lemmas.Result.{err_from_is_err_and}
use Rattle.contents.proofs.Heading.{not_headed}
use Rattle.contents.proofs.Moving.{single_part, headed_part}
use Rattle.contents.proofs.head_of.Goals as goal

pub invariant_of-part : goal.invariant_of-part
invariant_of-part c = record { single = rw c.part.ensures.answer (single_part c.args.form c.args.file.now c.args.k (sym c.in_ok-place.was ∙ c.statement_place.ensures.answer)) }

pub returns : goal.returns
returns c = record { answer = headed_part c.args.form c.args.file.now c.args.k (sym c.in_ok-place.was ∙ c.statement_place.ensures.answer) (rw c.part.ensures.answer at c.head.ensures) }

pub returns-in_err-place : goal.returns-in_err-place
returns-in_err-place c =
    let p = err_from_is_err_and c.from_residual.result c.from_residual.ensures.1 in
    rw (p.1, p.2) (record { answer = not_headed c.args.form c.args.file.now c.args.k c.in_err-place.ensures.answer })
