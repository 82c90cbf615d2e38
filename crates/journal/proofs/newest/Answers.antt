use mathlib.Core.Path.{ap, ◌∙◌}
use Rattle.std.specs.Prelude.{Ok}
use Rattle.journal.proofs.Latest.{part_journal, part_file, part_none}
use Rattle.journal.proofs.newest.Goals as goal

pub returns-in_default : goal.returns-in_default
returns-in_default c = record { answer = part_none c.args.form c.args.key.now c.find_newest.ensures c.in_default.is }

pub returns-in-InJournal : goal.returns-in-InJournal
returns-in-InJournal c = record { answer = part_journal c.args.form c.args.key.now c.find_newest.ensures (c.in-Ok.is ∙ ap (λ v. Ok v) c.in-InJournal.is) }

pub returns-in-InFile : goal.returns-in-InFile
returns-in-InFile c = record { answer = part_file c.args.form c.args.key.now c.find_newest.ensures (c.in-Ok.is ∙ ap (λ v. Ok v) c.in-InFile.is) }
