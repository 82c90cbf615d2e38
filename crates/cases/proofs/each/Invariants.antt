use Rattle.std.proofs.Common.{◌≡◌, ◌≤◌, ◌+◌, []}
use Rattle.cases.specs.Arguments.{argument_of}
use Rattle.cases.proofs.Ahead.{Ahead}
use Rattle.cases.proofs.each.Given as goal

abbrev pub invariant-loop-k : goal.invariant-loop-k
invariant-loop-k g l = record {
  callable : goal.F-IsAlwaysCallable g l.work;
  ahead : Ahead l.args l.step (λ p a b file r q. goal.F-step g p a b file r q) l.done l.k l.fn.work l.work;
  few : l.done + 1 ≤ l.k;
  none : argument_of l.args 1 ≡ [] → (l.k ≡ 1) × (l.done ≡ 0);
}
