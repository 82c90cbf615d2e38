use Rattle.contents.proofs.Moving.{no_movement_lem, row_there}
use Rattle.contents.proofs.Part.movement.Goals as goal

pub returns-in_default : goal.returns-in_default
returns-in_default c s r = rw c.at.ensures.answer (no_movement_lem r c.args.i c.in_default.ensures)

pub returns : goal.returns
returns c s r = row_there r c.args.i c.in-Some.ensures.0 c.record_at.ensures.answer c.in-Some.ensures.1 c.row_at.ensures.answer
