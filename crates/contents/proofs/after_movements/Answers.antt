use mathlib.Core.Path.{ap, sym, ◌∙◌}
use lib.ListN.{length}
use Rattle.readers.specs.Steps.{next_of}
use Rattle.contents.proofs.Moving.{steps_on, steps_none}
use Rattle.contents.proofs.after_movements.Goals as goal
use Rattle.contents.proofs.after_movements.Goals.{in-Some, in-None}

pub loop-preserved : goal.loop-preserved
loop-preserved c =
    let next = next_of (length c.args.part.now) in
    elim c.match-movement_step.branch [
      | in-Some w ↦ steps_on _ _ _ _ _ c.loop-test.true (w.at-is ∙ ap next (sym w.in-Some.is ∙ c.movement_step.ensures.answer)) ∙ c.loop.invariant
      | in-None w ↦ steps_on _ _ _ _ _ c.loop-test.true (w.at-is ∙ ap next (sym w.in-None.is ∙ c.movement_step.ensures.answer)) ∙ c.loop.invariant
    ]

pub returns : goal.returns
returns c = steps_none _ _ _ _ _ c.loop-test.false ∙ c.loop.invariant
