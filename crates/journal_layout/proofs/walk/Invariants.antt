use Rattle.journal_layout.proofs.Testing.{Walking}
use Rattle.journal_layout.proofs.walk.Given as goal

abbrev pub invariant-loop-e : goal.invariant-loop-e
invariant-loop-e l = Walking l.journal l.e l.k
