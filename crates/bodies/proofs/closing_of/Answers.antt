use native.Mathlib.Omega.{arith}
use Rattle.bodies.proofs.Compared.{none_unknown, none_short, last_found}
use Rattle.bodies.proofs.closing_of.Goals as goal

pub returns-then-form-gt2 : goal.returns-then-form-gt2
returns-then-form-gt2 c = record { answer = none_unknown c.args.form c.args.part.now c.if-form-gt2.true }

pub returns-then-part-width : goal.returns-then-part-width
returns-then-part-width c = record { answer = none_short c.args.form c.args.part.now (omega (arith, c.if-form-gt2.false)) c.if-part-width.true }

pub returns : goal.returns
returns c = record { answer = last_found c.args.form c.args.part.now (omega (arith, c.if-form-gt2.false)) (omega (arith, c.if-part-width.false)) c.record_at.ensures.answer }
