use mathlib.Core.Path.{ap, ◌∙◌}
use Rattle.layouts.specs.Zone.{day_in, value_in}
use mir.Facts.{to_z-of_z}
use Rattle.fields.proofs.Gathered.{default_valued, no_valued_lem, valued_is}
use borrow.Author.Rules.{sfits_of}
use Rattle.fields.proofs.valued_at.Goals as goal

pub returns-then-r-ne-RECORD : goal.returns-then-r-ne-RECORD
returns-then-r-ne-RECORD c = record { answer = default_valued c.default.ensures.0 c.default.ensures.1 ∙ no_valued_lem _ c.if-r-ne-RECORD.true }

pub returns : goal.returns
returns c =
    record {
      answer =
          rw (to_z-of_z (sfits_of c.unwrap_or.type_inv))
          (valued_is c.args.r.now c.if-r-ne-RECORD.false (c.unwrap_or-value.ensures ∙ ap day_in c.read.ensures.answer) (c.unwrap_or.ensures ∙ ap value_in c.read-2.ensures.answer));
    }
