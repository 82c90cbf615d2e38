use mathlib.Core.Path.{ap, ◌∙◌}
use native.Mathlib.Omega.{arith}
use lib.ListN.{length-take, length-drop}
use Rattle.bodies.specs.Bodies.{kept}
use Rattle.bodies.proofs.Copied.{unknown_end_lem, no_room, body_copied, begins, inside, goes_on, ends}
use Rattle.bodies.proofs.put_body.Goals as goal

pub returns-then-form-gt2 : goal.returns-then-form-gt2
returns-then-form-gt2 c = record { content = unknown_end_lem c.args.form c.args.part.now c.args.dst.now c.if-form-gt2.true }

pub returns-then-dst-len : goal.returns-then-dst-len
returns-then-dst-len c = record { content = no_room c.args.form c.args.part.now c.args.dst.now c.if-form-gt2.false (omega (arith, c.len.ensures.value, c.chunks_exact-pieces.ensures.count)) }

pub loop-i-init : goal.loop-i-init
loop-i-init c = begins _ _ _ (cc) (cc) (cc)

pub put_record-requires : goal.put_record-requires
put_record-requires c =
    let q = c.in-Some.ensures.steps in
    let i = c.loop-i.invariant in
    let r = inside _ _ _ (omega arith) i _ _ q.0.1.0 q.0.1.1 (omega (arith, c.if-dst-len.false, c.len.ensures.value, c.chunks_exact-pieces.ensures.count)) in
    simp (length-take, length-drop) (omega (arith, q.1, r, c.loop-i.auto.dst))

pub loop-i-preserved : goal.loop-i-preserved
loop-i-preserved c =
    let q = c.in-Some.ensures.steps in
    goes_on _ _ _ (omega arith) c.loop-i.invariant _ _ q.0.1.0 q.0.1.1 q.0.0 q.1 q.2 (c.put_record.ensures ∙ ap kept (rw c.unwrap.ensures at c.first_chunk.ensures.cases).same)

pub returns : goal.returns
returns c = record {
  content = body_copied c.args.form c.args.part.now c.args.dst.now c.if-form-gt2.false
      (omega (arith, c.if-dst-len.false, c.len.ensures.value, c.chunks_exact-pieces.ensures.count))
      (ends _ _ _ (omega arith) c.loop-i.invariant c.in-None.ensures.steps.0.1.0);
}
