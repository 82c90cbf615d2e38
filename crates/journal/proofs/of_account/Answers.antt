use Rattle.journal.proofs.Holdings.{no_key_lem, some_key}
use Rattle.journal.proofs.of_account.Goals as goal

pub returns-in_default : goal.returns-in_default
returns-in_default c = record { answer = no_key_lem _ _ c.in_default.ensures.1 }

pub returns : goal.returns
returns c =
    let k = c.in-Ok.ensures.1 in
    record { answer = some_key _ _ k.long c.record_at.ensures.answer (rw k.same at c.is_account.ensures) }
