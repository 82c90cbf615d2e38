use mathlib.Core.Path.{refl, ap, ◌∙◌}
use Rattle.fields.specs.Rows.{valued_at_of}
use Rattle.cash.proofs.Filling.{walk_start, goes_on, turn_bound, turned, walk_end}
use Rattle.cash.proofs.Days.add_body.Goals as goal

pub loop-step-init : goal.loop-step-init
loop-step-init c = record { walked = λ s r. walk_start r _ _; first = refl; same_table = refl }

pub add-requires : goal.add-requires
add-requires c =
    let p = c.requires in
    let w = c.loop-step.invariant in
    rw w.first
    (turn_bound p.reads _ c.args.self.now.first (w.walked p.one p.reads) c.in-Some.ensures.answer (c.valued_at.ensures.answer ∙ ap valued_at_of c.record_at.ensures.answer) p.room)

pub loop-step-smaller : goal.loop-step-smaller
loop-step-smaller c = goes_on _ _ c.in-Some.ensures.answer

pub loop-step-preserved : goal.loop-step-preserved
loop-step-preserved c =
    let w = c.loop-step.invariant in
    record {
      walked =
          λ s r. turned r _ _ (w.walked s r) c.in-Some.ensures.answer (c.valued_at.ensures.answer ∙ ap valued_at_of c.record_at.ensures.answer)
          (rw w.first at c.add.ensures.table);
      first = c.add.ensures.first ∙ w.first;
      same_table = c.add.ensures.same_table ∙ w.same_table;
    }

pub returns-clause-table : goal.returns-clause-table
returns-clause-table c = λ s r. walk_end r _ _ (c.loop-step.invariant.walked s r) c.in_default.ensures.answer
