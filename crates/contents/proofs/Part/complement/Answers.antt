use native.Mathlib.Omega.{arith}
use Rattle.zones.proofs.Called.{put_whole}
use Rattle.contents.proofs.Moving.{single_of, single_end, no_complements, no_complement, text_inside, text_whole, text_there}
use borrow.Author.Rules.{rules}
use Rattle.contents.proofs.Part.complement.Goals as goal

pub returns-in_default : goal.returns-in_default
returns-in_default c s r = rw c.at.ensures.answer (no_complements r c.args.i c.in_default.ensures c.args.j)

pub returns-then-j-step : goal.returns-then-j-step
returns-then-j-step c s r =
    rw c.at-then-j-step.ensures.answer (no_complement r c.args.i c.in-Some.ensures.0 c.args.j c.in-Some.ensures.1 c.if-j-step.true)

pub overflow_add-width : goal.overflow_add-width
overflow_add-width c = omega (arith, single_end _ _ c.args.self.now.single)

pub overflow_mul-j : goal.overflow_mul-j
overflow_mul-j c = omega (arith, text_inside (single_of _ _ c.args.self.now.single).alone c.args.i c.in-Some.ensures.0 c.args.j c.in-Some.ensures.1 c.if-j-step.false)

pub overflow_add-at : goal.overflow_add-at
overflow_add-at c = omega (arith, text_inside (single_of _ _ c.args.self.now.single).alone c.args.i c.in-Some.ensures.0 c.args.j c.in-Some.ensures.1 c.if-j-step.false)

pub slice_bounds-put-end-2 : goal.slice_bounds-put-end-2
slice_bounds-put-end-2 c =
    omega (arith, text_whole (single_of _ _ c.args.self.now.single).alone c.args.i c.in-Some.ensures.0 c.args.j c.in-Some.ensures.1 c.if-j-step.false c.record_at-r.ensures.answer)

pub returns : goal.returns
returns c s r =
    text_there r c.args.i c.in-Some.ensures.0 c.args.j c.in-Some.ensures.1 c.if-j-step.false c.record_at-r.ensures.answer (put_whole c.put.ensures (search rules))
