use borrow.Author.Rules.{rules}
use Rattle.collector.proofs.Bounds.{opening_bounds}
use Rattle.collector.proofs.Packing.{opening_packed}
use Rattle.collector.proofs.crownhazel_open.Goals as goal

pub returns : goal.returns
returns c = record { answer = opening_packed _ (opening_bounds _) (rw (← c.«open».ensures.answer) (search rules)); content = c.«open».ensures.content }
