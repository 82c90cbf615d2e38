use native.Mathlib.Omega.{arith}
use mathlib.Core.Path.{◌≡◌}
use Prim.Native.Nat.{◌+◌, ◌-◌}
use Rattle.cash.specs.Spans.{span_days}
use Rattle.cash.proofs.Asking.{no_first, no_last, no_order, no_length, good_span}
use Rattle.cash.proofs.span_of.Goals as goal

pub returns-in_err-from : goal.returns-in_err-from
returns-in_err-from c = rw c.from_residual.ensures (no_first _ _ c.in_err-from.ensures)

pub returns-in_err-to : goal.returns-in_err-to
returns-in_err-to c = rw c.from_residual-in_err-to.ensures (no_last _ _ c.in_err-to.ensures)

pub returns-then-to-from : goal.returns-then-to-from
returns-then-to-from c = no_order _ _ (omega (arith, c.in_ok-from.ensures, c.in_ok-to.ensures))

pub returns-then-days-gt-MOST_DAYS : goal.returns-then-days-gt-MOST_DAYS
returns-then-days-gt-MOST_DAYS c = no_length _ _ (omega (arith, c.in_ok-from.ensures, c.in_ok-to.ensures))

pub returns : goal.returns
returns c =
    let f = c.in_ok-from.ensures in
    let t = c.in_ok-to.ensures in
    let d : c.in_ok-to.to - c.in_ok-from.from + 1 ≡ span_days c.args.first c.args.last = omega (arith, f, t) in
    (good_span _ _ f.0 t.0 (omega (arith, f, t)) (omega (arith, f, t)), rw (d, f.1))
