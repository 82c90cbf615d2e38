use borrow.Author.Rules.{rules}
use Rattle.collector.proofs.Bounds.{listed_bounds}
use Rattle.collector.proofs.Packing.{place_lines, listed_packed}
use Rattle.collector.proofs.crownhazel_listed.Goals as goal

pub map_or_else-requires-clause-f_callable : goal.map_or_else-requires-clause-f_callable
map_or_else-requires-clause-f_callable c = place_lines c.list_entry.ensures.answer (listed_bounds _ _ _)

pub returns : goal.returns
returns c = record { answer = listed_packed _ (listed_bounds _ _ _) (rw (← c.list_entry.ensures.answer) (search rules)); content = c.list_entry.ensures.content }
