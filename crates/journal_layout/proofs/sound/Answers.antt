use mathlib.Core.Bool.{not}
use mathlib.Core.Path.{ap}
use Rattle.journal_layout.proofs.Testing.{not_length, right_length, walked}
use Rattle.journal_layout.proofs.sound.Goals as goal

pub returns-then-not-is_length : goal.returns-then-not-is_length
returns-then-not-is_length c = record { answer = not_length c.args.journal.now c.is_length.ensures (ap not c.if-not-is_length.true) }

pub walk-requires : goal.walk-requires
walk-requires c = let l = right_length c.args.journal.now c.is_length.ensures (ap not c.if-not-is_length.false) in (l.least, l.most)

pub returns : goal.returns
returns c = record { answer = walked c.args.journal.now c.is_length.ensures (ap not c.if-not-is_length.false) c.walk.ensures }
