use mathlib.Core.Bool.{not}
use mathlib.Core.Path.{ap}
use Rattle.journal_layout.proofs.Testing.{kept_closed, blanked}
use Rattle.journal_layout.proofs.open.Goals as goal

pub returns-then-not-is_length : goal.returns-then-not-is_length
returns-then-not-is_length c = rw c.at.ensures.answer (kept_closed c.args.journal.now c.is_length.ensures (ap not c.if-not-is_length.true))

pub returns : goal.returns
returns c = blanked c.args.journal.now c.is_length.ensures (ap not c.if-not-is_length.false) (c.fill.ensures.after (λ y h. h))
