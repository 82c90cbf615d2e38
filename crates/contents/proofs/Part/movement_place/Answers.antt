use native.Mathlib.Omega.{arith}
use Rattle.contents.proofs.Moving.{place_zero, place_over, place_walked, single_end}
use Rattle.contents.proofs.Part.movement_place.Goals as goal

pub returns-then-i-eq0 : goal.returns-then-i-eq0
returns-then-i-eq0 c = place_zero c.args.self.now.form c.args.self.now.bytes.now c.args.i c.if-i-eq0.true

pub returns-then-movements_in-i : goal.returns-then-movements_in-i
returns-then-movements_in-i c = place_over c.args.self.now.form c.args.self.now.bytes.now c.args.i c.if-i-eq0.false c.movements_in.ensures.answer c.if-movements_in-i.true

pub overflow_add-width : goal.overflow_add-width
overflow_add-width c = omega (arith, single_end _ _ c.args.self.now.single)

pub returns : goal.returns
returns c = place_walked c.args.self.now.form c.args.self.now.bytes.now c.args.i c.if-i-eq0.false c.movements_in.ensures.answer c.if-movements_in-i.false c.after_movements.ensures
