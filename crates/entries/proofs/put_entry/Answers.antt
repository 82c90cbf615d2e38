use Rattle.entries.proofs.Written.{entry_put_lem, other_room, other_opening, other_closing}
use Rattle.entries.proofs.put_entry.Goals as goal

pub returns-then-dst-ne-ENTRY : goal.returns-then-dst-ne-ENTRY
returns-then-dst-ne-ENTRY c = record { content = other_room c.args.first c.args.records c.args.opening.now c.args.closing.now c.args.dst.now c.if-dst-ne-ENTRY.true }

pub returns-then-opening-ne-RECORD : goal.returns-then-opening-ne-RECORD
returns-then-opening-ne-RECORD c = record { content = other_opening c.args.first c.args.records c.args.opening.now c.args.closing.now c.args.dst.now c.if-dst-ne-ENTRY.false c.if-opening-ne-RECORD.true }

pub returns-then-closing-ne-RECORD : goal.returns-then-closing-ne-RECORD
returns-then-closing-ne-RECORD c = record { content = other_closing c.args.first c.args.records c.args.opening.now c.args.closing.now c.args.dst.now c.if-dst-ne-ENTRY.false c.if-opening-ne-RECORD.false c.if-closing-ne-RECORD.true }

pub returns : goal.returns
returns c = record { content = entry_put_lem c.args.first c.args.records c.args.opening.now c.args.closing.now c.if-opening-ne-RECORD.false c.if-closing-ne-RECORD.false c.args.dst.now c.if-dst-ne-ENTRY.false c.put_key.ensures c.put_dates.ensures c.put_place.ensures }
