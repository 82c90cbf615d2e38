use Rattle.records.proofs.Compared.{no_key_first, no_key_second, same_keys}
use Rattle.records.proofs.same_key.Goals as goal

pub returns-then-a-ne-RECORD : goal.returns-then-a-ne-RECORD
returns-then-a-ne-RECORD c = record { answer = no_key_first _ _ c.if-a-ne-RECORD.true }

pub returns-then-b-ne-RECORD : goal.returns-then-b-ne-RECORD
returns-then-b-ne-RECORD c = record { answer = no_key_second _ _ c.if-b-ne-RECORD.true }

pub returns : goal.returns
returns c = record { answer = same_keys _ _ c.if-a-ne-RECORD.false c.if-b-ne-RECORD.false c.same.ensures.answer c.same-2.ensures.answer c.same-3.ensures.answer c.same-4.ensures.answer }
