use mathlib.Core.Path.{sym, ◌∙◌}
use Rattle.std.proofs.lemmas.Result.{err_from_is_err_and}
use Rattle.journal.proofs.Holdings.{counted, not_counted}
use Rattle.journal.proofs.held.Goals as goal

pub returns : goal.returns
returns c = record { answer = counted _ (sym c.in_ok-usage.was ∙ c.used.ensures.answer) }

pub returns-in_err-usage : goal.returns-in_err-usage
returns-in_err-usage c =
    let p = err_from_is_err_and c.from_residual.result c.from_residual.ensures.1 in
    rw (p.1, p.2) (record { answer = not_counted _ c.in_err-usage.ensures.answer })
