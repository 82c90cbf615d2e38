use Rattle.contents.specs.Earliest.{earlier_of}
use Rattle.contents.proofs.earlier.Goals as goal

pub returns-then-kept-day : goal.returns-then-kept-day
unfolding earlier_of
returns-then-kept-day c = rw c.if-kept-day.true

pub returns : goal.returns
unfolding earlier_of
returns c = rw c.if-kept-day.false
