use mathlib.Core.Path.{ap, ◌∙◌}
use lib.ListN.{length}
use Rattle.entries.specs.Entries.{row_of}
use Rattle.entries.proofs.Written.{length_there}
use Rattle.entries.proofs.Rows.{other_room, not_there, written_there}
use Rattle.entries.proofs.put_row.Goals as goal

pub returns-then-dst-ne-ROW : goal.returns-then-dst-ne-ROW
returns-then-dst-ne-ROW c = record { content = other_room c.args.journal.now c.args.e c.args.dst.now c.if-dst-ne-ROW.true }

pub put_fields-requires : goal.put_fields-requires
put_fields-requires c = let p = c.in-Some.ensures in (c.if-dst-ne-ROW.false, ap length p.1 ∙ length_there c.args.journal.now c.args.e p.0)

pub returns-in-Some : goal.returns-in-Some
returns-in-Some c = let p = c.in-Some.ensures in record { content = written_there c.args.journal.now c.args.e c.args.dst.now c.if-dst-ne-ROW.false p.0 (c.put_fields.ensures ∙ ap row_of p.1) }

pub returns-in_default : goal.returns-in_default
returns-in_default c = record { content = not_there c.args.journal.now c.args.e c.args.dst.now c.if-dst-ne-ROW.false c.in_default.ensures }
