use Rattle.journal.proofs.Holdings.{no_entry_lem, some_entry}
use Rattle.journal.proofs.body.Goals as goal

pub returns-then-e-eq0 : goal.returns-then-e-eq0
returns-then-e-eq0 c = record { answer = no_entry_lem _ _ c.if-e-eq0.true }

pub returns : goal.returns
returns c = record { answer = some_entry _ _ c.if-e-eq0.false c.body_at.ensures.answer }
