use Rattle.entries.proofs.Written.{blank_read, fields_read}
use Rattle.zones.proofs.Called.{number_value}
use borrow.Author.Rules.{rules}
use Rattle.entries.proofs.entry_fields.Goals as goal

pub returns-then-x-eq32 : goal.returns-then-x-eq32
returns-then-x-eq32 c = blank_read c.args.x.now c.requires (number_value c.number.ensures (search rules)) (number_value c.number-2.ensures (search rules)) c.if-x-eq32.true

pub returns : goal.returns
returns c = fields_read c.args.x.now c.requires (number_value c.number.ensures (search rules)) (number_value c.number-2.ensures (search rules)) c.if-x-eq32.false
