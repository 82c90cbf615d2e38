use Rattle.framing.specs.Files.{width_of}
use Rattle.journal.proofs.Values.{turned}
use Rattle.journal.proofs.turn.Goals as goal

pub returns : goal.returns
unfolding width_of
returns c =
    let a = c.args in
    turned a.journal.now a.parts.form a.parts.file.now a.parts.bounds.now a.held a.left a.part (rw c.bytes-s.ensures at c.judged_all-judgement.ensures) (rw c.bytes-s.ensures at c.record_at.ensures.answer) (rw c.bytes-s.ensures at c.verdict_by.ensures)
