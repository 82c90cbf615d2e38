use Rattle.journal_layout.specs.Test.{held_of}
use Rattle.journal.specs.Newest.{key_from}
use mathlib.Core.Path.{◌≡◌}
use Rattle.cash.proofs.Filling.{Entered}
use Rattle.cash.proofs.Ledger.fill.Given as goal

abbrev pub invariant-loop-e : goal.invariant-loop-e
invariant-loop-e l = record {
  entered : Entered (key_from l.self.key.now) (held_of l.self.journal.now) l.initial.days.table.now l.initial.days.first l.days.table.now l.e;
  first : l.days.first ≡ l.initial.days.first;
  same_table : l.days.table.ghost_name ≡ l.initial.days.table.ghost_name;
}
