use Rattle.contents.proofs.Records.{none_short, none_past, cut_out}
use Rattle.contents.proofs.record_at.Goals as goal

pub returns-then-file-lt-RECORD : goal.returns-then-file-lt-RECORD
returns-then-file-lt-RECORD c = record { answer = none_short c.args.file.now c.args.at c.if-file-lt-RECORD.true }

pub returns-then-file-at : goal.returns-then-file-at
returns-then-file-at c = record { answer = none_past c.args.file.now c.args.at c.if-file-lt-RECORD.false c.if-file-at.true }

pub returns : goal.returns
returns c = record { answer = cut_out c.args.file.now c.args.at c.if-file-lt-RECORD.false c.if-file-at.false }
