use mathlib.Core.Path.{ap, ◌∙◌}
use mir.Facts.{to_z-of_z}
use Rattle.std.specs.Prelude.{unwrap_or, length}
use Rattle.records.specs.declared.Kind.TheVariants.{Closing}
use Rattle.layouts.specs.Zone.{is_date, day_in, value_in}
use Rattle.records.specs.Looks.{has_value, look_of}
use Rattle.records.proofs.Looking.{value_amount, looked, not_looked}
use borrow.Author.Rules.{sfits_of}
use Rattle.records.proofs.look_at.Goals as goal

pub returns-in_default : goal.returns-in_default
returns-in_default c = record { answer = not_looked _ c.in_default.ensures.1 }

pub invariant_of-seen : goal.invariant_of-seen
invariant_of-seen c =
    record {
      judged = c.unwrap_or.ensures ∙ ap (λ k. unwrap_or k Closing) c.kind_of-kind.ensures;
      qualified = c.mmo.ensures;
      exists = c.is_some.ensures ∙ ap is_date c.read-date.ensures.answer;
      valued = c.is_some-2.ensures ∙ ap has_value c.read-amount.ensures.answer ∙ value_amount _;
      told = c.permitted.ensures.answer;
    }

pub returns : goal.returns
returns c =
    record {
      answer =
          rw (to_z-of_z (sfits_of c.unwrap_or-3.type_inv))
          (looked c.in-Ok.r.now (ap length c.in-Ok.ensures.1.same ∙ c.in-Ok.ensures.1.long)
          c.kind_of-kind.ensures c.zones_fit.ensures c.dates_fit.ensures
          (c.unwrap_or-2.ensures ∙ ap day_in c.read-date.ensures.answer)
          (c.unwrap_or-3.ensures ∙ ap value_in c.read-amount.ensures.answer) c.mmo.ensures c.permitted.ensures.answer ∙ ap look_of c.in-Ok.ensures.1.same);
    }
