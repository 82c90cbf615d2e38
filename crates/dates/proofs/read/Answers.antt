use borrow.Author.Rules.{rules}
use Rattle.dates.proofs.Reading.{last_small}
use Rattle.dates.proofs.read.Goals as goal

pub year-y-requires : goal.year-y-requires
year-y-requires c = search (rules, last_small)
