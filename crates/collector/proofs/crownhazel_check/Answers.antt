use borrow.Author.Rules.{rules}
use Rattle.collector.proofs.Bounds.{check_bounds}
use Rattle.collector.proofs.Packing.{check_packed}
use Rattle.collector.proofs.crownhazel_check.Goals as goal

pub returns : goal.returns
returns c = record { answer = check_packed _ (check_bounds _ _) (rw (← c.check.ensures.answer) (search rules)) }
