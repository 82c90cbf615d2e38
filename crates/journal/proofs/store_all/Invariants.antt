use Rattle.journal.proofs.Storing.{Going}
use Rattle.journal.proofs.store_all.Given as goal

abbrev pub invariant-loop-p : goal.invariant-loop-p
invariant-loop-p l = Going l.initial.journal l.parts.form l.parts.file.now l.parts.bounds.now l.entry l.line l.p l.k l.journal
