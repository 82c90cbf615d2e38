use borrow.Author.Rules.{rules}
use Rattle.collector.proofs.Bounds.{entry_bounds}
use Rattle.collector.proofs.Packing.{place_lines, entry_lines, listed_packed}
use Rattle.collector.proofs.crownhazel_entry.Goals as goal

pub map_or_else-requires-clause-f_callable : goal.map_or_else-requires-clause-f_callable
map_or_else-requires-clause-f_callable c = place_lines c.entry_place.ensures.answer (entry_lines _ (entry_bounds _ _))

pub returns : goal.returns
returns c = record { answer = listed_packed _ (entry_lines _ (entry_bounds _ _)) (rw (← c.entry_place.ensures.answer) (search rules)) }
