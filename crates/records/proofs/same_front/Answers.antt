use Rattle.records.proofs.Compared.{no_front_first, no_front_second, same_fronts}
use Rattle.records.proofs.same_front.Goals as goal

pub returns-then-a-ne-RECORD : goal.returns-then-a-ne-RECORD
returns-then-a-ne-RECORD c = record { answer = no_front_first _ _ c.if-a-ne-RECORD.true }

pub returns-then-b-ne-RECORD : goal.returns-then-b-ne-RECORD
returns-then-b-ne-RECORD c = record { answer = no_front_second _ _ c.if-b-ne-RECORD.true }

pub returns : goal.returns
returns c = record { answer = same_fronts _ _ c.if-a-ne-RECORD.false c.if-b-ne-RECORD.false c.same.ensures.answer }
