use borrow.Author.Rules.{rules}
use Rattle.cash.proofs.Positioned.{numbered}
use Rattle.cash.proofs.crownhazel_position.Goals as goal

pub returns : goal.returns
returns c = numbered _ _ _ _ _ c.position.result (search rules) c.position.ensures
