use Rattle.journal_layout.proofs.Judging.{Going}
use Rattle.journal_layout.proofs.judged.Given as goal

abbrev pub invariant-loop-e : goal.invariant-loop-e
invariant-loop-e l = Going l.journal l.count l.form l.s l.last l.e
