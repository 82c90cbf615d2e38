use mathlib.Core.List.{◌∷◌, []}
use Prim.Native.Nat.{◌-◌}
use lib.ListN.{length}
use Rattle.framing.specs.Files.{plain}
use Rattle.grammar.specs.Statements.{Statement}
use Rattle.grammar.specs.Files.{Reads}
use Rattle.records.specs.July.{coding_of}
use mathlib.Core.Path.{◌≡◌}
use Rattle.cash.proofs.Filling.{Walked}
use Rattle.cash.proofs.Days.add_body.Given as goal

abbrev pub invariant-loop-step : goal.invariant-loop-step
invariant-loop-step l = record {
  walked : (s : Statement) → Reads (coding_of plain) plain l.body (s ∷ []) → Walked s l.initial.self.table.now l.initial.self.first l.self.table.now l.at;
  first : l.self.first ≡ l.initial.self.first;
  same_table : l.self.table.ghost_name ≡ l.initial.self.table.ghost_name;
}

abbrev pub decreases-loop-step : goal.decreases-loop-step
decreases-loop-step l = length l.body - l.at
