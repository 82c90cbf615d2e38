use Rattle.layouts.specs.Zone.{day_in}
use Rattle.entries.proofs.Rows.{row_put_lem}
use Rattle.zones.proofs.Called.{put_whole, put_digits}
use mathlib.Core.Path.{ap, ◌∙◌}
use Rattle.zones.specs.Number.{digits_of}
use borrow.Author.Rules.{rules}
use Rattle.entries.proofs.put_fields.Goals as goal

pub returns : goal.returns
returns c = row_put_lem c.args.x.now c.args.dst.now c.requires.1 c.requires.0 (put_whole c.put.ensures (search rules)) (put_digits c.put_number.ensures 8 (search rules) ∙ ap (digits_of 8) (c.unwrap_or-old_date.ensures ∙ ap day_in c.read.ensures.answer)) (put_digits c.put_number-2.ensures 8 (search rules) ∙ ap (digits_of 8) (c.unwrap_or-new_date.ensures ∙ ap day_in c.read-2.ensures.answer))
