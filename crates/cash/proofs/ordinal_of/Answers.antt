use native.Mathlib.Omega.{arith}
use Rattle.cash.proofs.Asking.{ok_some, past_all, ordinal_some}
use Rattle.cash.proofs.ordinal_of.Goals as goal

pub returns-in_err-ok : goal.returns-in_err-ok
returns-in_err-ok c =
    let n = ok_some _ _ _ c.try_from.ensures c.in_err-ok.ensures.value in
    rw c.from_residual.ensures (past_all _ (omega arith))

pub returns : goal.returns
returns c = let s = ok_some _ _ _ c.try_from.ensures c.in_ok-ok.ensures.value in rw s.1 at (ordinal_some c.ordinal.ensures)
