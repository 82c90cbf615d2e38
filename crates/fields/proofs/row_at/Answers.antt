use mathlib.Core.Path.{ap, ◌∙◌}
use mir.Facts.{to_z-of_z}
use Rattle.layouts.specs.Zone.{day_in, value_in}
use Rattle.fields.proofs.Gathered.{default_row, no_row_lem, row_is}
use borrow.Author.Rules.{sfits_of}
use Rattle.fields.proofs.row_at.Goals as goal

pub returns-then-r-ne-RECORD : goal.returns-then-r-ne-RECORD
returns-then-r-ne-RECORD c =
    let e = c.default.ensures in
    let z =
    default_row e.0 e.1.0 e.1.1.0 e.1.1.1.0 e.1.1.1.1.0 e.1.1.1.1.1.0 e.1.1.1.1.1.1.0 e.1.1.1.1.1.1.1.0 e.1.1.1.1.1.1.1.1.0 e.1.1.1.1.1.1.1.1.1.0 e.1.1.1.1.1.1.1.1.1.1.0 e.1.1.1.1.1.1.1.1.1.1.1 in
    record { answer = z ∙ no_row_lem _ _ c.if-r-ne-RECORD.true }

pub returns : goal.returns
returns c =
    record {
      answer =
          rw (to_z-of_z (sfits_of c.unwrap_or-3.type_inv))
          (row_is c.args.r.now c.if-r-ne-RECORD.false c.args.complements
          c.zone.ensures c.zone-2.ensures c.zone-3.ensures c.zone-4.ensures c.zone-5.ensures
          (c.unwrap_or.ensures ∙ ap day_in c.read.ensures.answer) (c.unwrap_or-2.ensures ∙ ap day_in c.read-2.ensures.answer) c.entry_number.ensures
          (c.unwrap_or-3.ensures ∙ ap value_in c.read-3.ensures.answer));
    }
