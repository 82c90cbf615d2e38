use mathlib.Core.Path.{sym, ap}
use Rattle.std.proofs.lemmas.Result.{err_from_is_err_and}
use Rattle.journal.specs.Answers.{answer_of}
use Rattle.journal.proofs.Delivered.{unchanged}
use Rattle.journal.proofs.Paper.{delivers}
use Rattle.journal.proofs.deliver.Goals as goal

pub returns-in_err-plan : goal.returns-in_err-plan
returns-in_err-plan c =
    let a = c.args in
    let p = err_from_is_err_and c.from_residual.result c.from_residual.ensures.1 in
    rw (p.1, p.2) (delivers (sym (ap answer_of c.in_err-plan.ensures)) (sym (unchanged a.journal.now a.form a.file.now c.in_err-plan.ensures)))
