use borrow.Author.Rules.{rules}
use Rattle.collector.proofs.Bounds.{delivery_bounds}
use Rattle.collector.proofs.Packing.{delivery_packed}
use Rattle.collector.proofs.crownhazel_deliver.Goals as goal

pub returns : goal.returns
returns c = record { answer = delivery_packed _ (delivery_bounds _ _ _) (rw (← c.deliver.ensures.answer) (search rules)); content = c.deliver.ensures.content }
