use mathlib.Core.Path.{refl, sym, ◌∙◌}
use Prim.Native.Nat.{◌*◌}
use native.Mathlib.Omega.{arith}
use Rattle.records.specs.July.{most_in_file}
use Rattle.statements.proofs.Judging.{look_small}
use Rattle.statements.proofs.Taken.{enough}
use Rattle.statements.proofs.Loop.{quiet_in, begun, record_length, stops, again, closed_end, open_end}
use Rattle.statements.proofs.scan.Goals as goal

pub loop-i-init : goal.loop-i-init
loop-i-init c =
    rw (c.new-p.ensures, c.into_iter-i-iterator.ensures.into_iter_gives, c.enumerate-i-items.ensures.source, c.enumerate-i-items.ensures.count, c.chunks_exact.ensures.rest, c.chunks_exact.ensures.size)
    (begun c.requires, refl)

pub slice_bounds-look_at-end : goal.slice_bounds-look_at-end
slice_bounds-look_at-end c = let s = c.in-Some.ensures.steps in record_length c.requires c.loop-i.invariant.0 _ _ s.0.1.0 (s.0.1.1 ∙ c.loop-i.invariant.1)

pub returns-in-Some-judge : goal.returns-in-Some-judge
returns-in-Some-judge c =
    let s = c.in-Some.ensures.steps in
    rw (c.at.ensures.answer, s.1) (stops c.requires c.loop-i.invariant.0 _ _ s.0.1.0 (s.0.1.1 ∙ c.loop-i.invariant.1) c.in-Some-judge.ensures)

pub taken-p-requires : goal.taken-p-requires
taken-p-requires c =
    let g = c.loop-i.invariant.0 in
    let v = enough {j = most_in_file} {to = c.loop-i.i-iterator.count * c.args.frame.width} (omega (arith, g.few, c.requires.few)) (omega arith) g.bound in
    (v.totals, v.size, look_small _ c.look_at-k.ensures.answer)

pub loop-i-preserved : goal.loop-i-preserved
loop-i-preserved c =
    let s = c.in-Some.ensures.steps in
    rw (c.taken-p.ensures, s.1, s.2) (
      again c.requires c.loop-i.invariant.0 _ _ s.0.1.0 (s.0.1.1 ∙ c.loop-i.invariant.1) c.look_at-k.ensures.answer (quiet_in _ (sym c.in_default.is ∙ c.judge.ensures)),
      s.0.0 ∙ c.loop-i.invariant.1,
    )

pub returns-then-p-eq0 : goal.returns-then-p-eq0
returns-then-p-eq0 c = closed_end c.requires c.loop-i.invariant.0 (rw c.loop-i.invariant.1 at c.in-None.ensures.steps.0.1.0) c.if-p-eq0.true

pub returns-else-p-eq0 : goal.returns-else-p-eq0
returns-else-p-eq0 c = rw c.at-else-p-eq0.ensures.answer (open_end c.requires c.loop-i.invariant.0 (rw c.loop-i.invariant.1 at c.in-None.ensures.steps.0.1.0) c.if-p-eq0.false)
