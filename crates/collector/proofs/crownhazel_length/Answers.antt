use borrow.Author.Rules.{rules}
use Rattle.collector.proofs.Bounds.{length_bounds}
use Rattle.collector.proofs.Packing.{length_packed}
use Rattle.collector.proofs.crownhazel_length.Goals as goal

pub returns : goal.returns
returns c = record { answer = length_packed _ (length_bounds _ _) (rw (← c.cut_length.ensures.answer) (search rules)) }
