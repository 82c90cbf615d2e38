use native.Mathlib.Omega.{arith}
use Rattle.journal_layout.proofs.Freeing.{free_numbered, free_none}
use Rattle.journal_layout.proofs.Places.{numbered_small}
use Rattle.journal_layout.proofs.first_free.Goals as goal

pub overflow_add-result : goal.overflow_add-result
overflow_add-result c = let s = numbered_small c.args.journal.now c.first_unused-entry.result c.in-Some.ensures in omega (arith, s.first, s.records)

pub returns-in-Some : goal.returns-in-Some
returns-in-Some c = record { answer = free_numbered c.args.journal.now c.first_unused-entry.ensures c.in-Some.ensures }

pub returns-in-None : goal.returns-in-None
returns-in-None c = record { answer = free_none c.args.journal.now c.first_unused-entry.ensures c.in-None.ensures }
