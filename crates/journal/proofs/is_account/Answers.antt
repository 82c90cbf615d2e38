use Rattle.journal.proofs.Latest.{no_record, account_tested}
use Rattle.journal.proofs.is_account.Goals as goal

pub returns-then-opening-ne-RECORD : goal.returns-then-opening-ne-RECORD
returns-then-opening-ne-RECORD c = no_record c.args.key.now c.args.opening.now c.if-opening-ne-RECORD.true

pub returns : goal.returns
returns c = account_tested c.args.key.now c.args.opening.now c.if-opening-ne-RECORD.false c.same.ensures.answer c.same-2.ensures.answer c.same-3.ensures.answer c.same-4.ensures.answer
