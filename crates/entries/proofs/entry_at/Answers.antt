use mathlib.Core.Path.{ap, ◌∙◌}
use lib.ListN.{length}
use Rattle.entries.specs.Entries.{fields_of, entry_of}
use Rattle.entries.proofs.Written.{none_there, length_there, read_there}
use Rattle.entries.proofs.entry_at.Goals as goal

pub entry_fields-requires : goal.entry_fields-requires
entry_fields-requires c = let p = c.in-Some.ensures in ap length p.1 ∙ length_there c.args.journal.now c.args.e p.0

pub returns-in-Some : goal.returns-in-Some
returns-in-Some c = let p = c.in-Some.ensures in record { answer = read_there c.args.journal.now c.args.e p.0 (c.entry_fields.ensures ∙ ap (λ x. entry_of (fields_of x)) p.1) }

pub returns-in-None : goal.returns-in-None
returns-in-None c = record { answer = none_there c.args.journal.now c.args.e c.in-None.ensures }
