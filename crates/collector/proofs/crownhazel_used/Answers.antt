use borrow.Author.Rules.{rules}
use Rattle.collector.proofs.Bounds.{usage_bounds}
use Rattle.collector.proofs.Packing.{usage_packed}
use Rattle.collector.proofs.crownhazel_used.Goals as goal

pub returns : goal.returns
returns c = record { answer = usage_packed _ (usage_bounds _) (rw (← c.used.ensures.answer) (search rules)) }
