use Rattle.readers.proofs.Over.{step_unknown, step_short, step_past, step_other, step_there}
use Rattle.readers.proofs.movement_step.Goals as goal

pub returns-then-form-gt2 : goal.returns-then-form-gt2
returns-then-form-gt2 c = record { answer = step_unknown c.args.part.now c.args.form c.args.at c.if-form-gt2.true }

pub returns-then-part-at : goal.returns-then-part-at
returns-then-part-at c = record { answer = step_past c.args.part.now c.args.form c.args.at c.if-form-gt2.false c.if-part-at.true }

pub returns-then-part-at-2 : goal.returns-then-part-at-2
returns-then-part-at-2 c = record { answer = step_short c.args.part.now c.args.form c.args.at c.if-form-gt2.false c.if-part-at-2.true }

pub returns-then-not-is_code : goal.returns-then-not-is_code
returns-then-not-is_code c = record { answer = step_other c.args.part.now c.args.form c.args.at c.if-form-gt2.false c.if-part-at.false c.if-part-at-2.false c.is_code.ensures c.if-not-is_code.true }

pub returns : goal.returns
returns c = record { answer = step_there c.args.part.now c.args.form c.args.at c.if-form-gt2.false c.if-part-at.false c.if-part-at-2.false c.is_code.ensures c.if-not-is_code.false c.step_over.ensures }
