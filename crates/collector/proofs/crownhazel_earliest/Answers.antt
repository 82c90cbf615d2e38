use borrow.Author.Rules.{rules}
use Rattle.collector.proofs.Bounds.{earliest_bounds}
use Rattle.collector.proofs.Packing.{beginning_packed}
use Rattle.collector.proofs.crownhazel_earliest.Goals as goal

pub returns : goal.returns
returns c = record { answer = beginning_packed _ (earliest_bounds _ _) (rw (← c.earliest.ensures.answer) (search rules)) }
