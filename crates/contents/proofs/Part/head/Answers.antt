use native.Mathlib.Omega.{arith}
use Rattle.contents.proofs.Heading.{last_inside, headed}
use Rattle.contents.proofs.Moving.{single_of, single_end}
use Rattle.contents.proofs.Part.head.Goals as goal

pub overflow_add-width : goal.overflow_add-width
overflow_add-width c = omega (arith, single_end _ _ c.args.self.now.single)

pub overflow_sub-last : goal.overflow_sub-last
overflow_sub-last c = last_inside (single_of _ _ c.args.self.now.single).alone

pub returns : goal.returns
returns c s r = headed r (rw (← c.record_at.ensures.answer, ← c.record_at-2.ensures.answer) c.head_at.ensures) c.movements_in.ensures.answer
