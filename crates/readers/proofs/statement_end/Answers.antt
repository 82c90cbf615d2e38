use Rattle.readers.proofs.Walk.{end_unknown, end_past, end_walked}
use Rattle.readers.proofs.statement_end.Goals as goal

pub returns-then-form-gt2 : goal.returns-then-form-gt2
returns-then-form-gt2 c = record { answer = end_unknown c.args.form c.args.file.now c.args.at c.if-form-gt2.true }

pub returns-then-file-at : goal.returns-then-file-at
returns-then-file-at c = record { answer = end_past c.args.form c.args.file.now c.args.at c.if-form-gt2.false c.if-file-at.true }

pub returns : goal.returns
returns c = record { answer = end_walked c.args.form c.args.file.now c.args.at c.if-form-gt2.false c.closing_end.ensures }
