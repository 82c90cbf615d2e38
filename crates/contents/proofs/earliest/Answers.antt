use mathlib.Core.Path.{sym, ◌∙◌}
use Rattle.std.proofs.lemmas.Result.{err_from_is_err_and}
use Rattle.contents.proofs.Passing.{begun, not_begun}
use Rattle.contents.proofs.earliest.Goals as goal

pub returns-in_err-check : goal.returns-in_err-check
returns-in_err-check c =
    let p = err_from_is_err_and c.from_residual.result c.from_residual.ensures.1 in
    rw (p.1, p.2) (record { answer = not_begun c.args.form c.args.file.now c.in_err-check.ensures.answer })

pub returns : goal.returns
returns c = record { answer = begun c.args.form c.args.file.now (sym c.in_ok-check.was ∙ c.check.ensures.answer) c.earliest_day.ensures }
