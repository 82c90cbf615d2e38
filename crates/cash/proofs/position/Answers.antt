use mathlib.Core.Path.{sym, ◌∙◌}
use Rattle.std.proofs.lemmas.Result.{err_from_is_err_and}
use Rattle.cash.proofs.Positioned.{holding_sound, not_sound}
use Rattle.cash.proofs.position.Goals as goal

pub invariant_of-ledger : goal.invariant_of-ledger
invariant_of-ledger c = let h = holding_sound _ (sym c.in_ok-count.was ∙ c.held.ensures.answer) in record { sound = h.0; many = h.1 }

pub returns-in_err-count : goal.returns-in_err-count
returns-in_err-count c =
    let p = err_from_is_err_and c.from_residual.result c.from_residual.ensures.1 in
    rw (p.1, p.2) (not_sound _ _ _ _ _ c.in_err-count.ensures.answer)
