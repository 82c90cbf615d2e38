use native.Mathlib.Omega.{arith}
use mathlib.Core.Path.{◌≡◌, ap, ◌∙◌}
use Prim.Native.Nat.{◌+◌}
use Rattle.dates.specs.Ordinals.{ordinal_of, of_ordinal}
use Rattle.dates.proofs.Calendar.{day_or}
use Rattle.cash.proofs.Asking.{ok_some, after_none, after_all, after_there}
use Rattle.cash.proofs.later_day.Goals as goal

pub returns-in_err-from : goal.returns-in_err-from
returns-in_err-from c = rw c.from_residual.ensures (after_none _ _ c.in_err-from.ensures)

pub returns-in_err-days : goal.returns-in_err-days
returns-in_err-days c =
    let n = ok_some _ _ _ c.try_from.ensures c.in_err-days.ensures.value in
    rw c.from_residual-in_err-days.ensures (after_all _ _ c.in_ok-from.ensures.0 (omega arith))

pub returns-in_err-checked_add : goal.returns-in_err-checked_add
returns-in_err-checked_add c =
    let f = c.in_ok-from.ensures in
    let s = ok_some _ _ _ c.try_from.ensures c.in_ok-days.ensures.value in
    let n = c.in_err-checked_add.ensures in
    rw c.from_residual-in_err-checked_add.ensures (after_all _ _ f.0 (omega arith))

pub returns : goal.returns
returns c =
    let f = c.in_ok-from.ensures in
    let s = ok_some _ _ _ c.try_from.ensures c.in_ok-days.ensures.value in
    let d = c.in_ok-checked_add.ensures in
    let z : c.in_ok-checked_add.field-0 ≡ ordinal_of c.args.day + c.args.after = omega (arith, f, s, d) in
    after_there _ _ f.0 (day_or c.of_ordinal.ensures ∙ ap of_ordinal z)
