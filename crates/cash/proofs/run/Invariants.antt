use Rattle.cash.proofs.Loops.{Ran}
use Rattle.cash.proofs.run.Given as goal

abbrev pub invariant-loop-x : goal.invariant-loop-x
invariant-loop-x l = Ran l.initial.table l.table l.sum l.x-index
