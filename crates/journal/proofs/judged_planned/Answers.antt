use Rattle.journal.proofs.Judging.{ends_there, found, goes_on}
use Rattle.journal.proofs.judged_planned.Goals as goal

pub returns-then-same_records : goal.returns-then-same_records
returns-then-same_records c = let a = c.args in found _ a.parts.form a.parts.file.now a.parts.bounds.now a.s.now _ c.loop-part.invariant c.loop-part-test.true c.bytes-h.ensures c.same_records.ensures.answer c.if-same_records.true

pub loop-part-preserved : goal.loop-part-preserved
loop-part-preserved c = let a = c.args in goes_on _ a.parts.form a.parts.file.now a.parts.bounds.now a.s.now _ c.loop-part.invariant c.loop-part-test.true c.bytes-h.ensures c.same_records.ensures.answer c.if-same_records.false c.later-after.ensures.answer

pub returns : goal.returns
returns c = let a = c.args in ends_there _ a.parts.form a.parts.file.now a.parts.bounds.now a.s.now _ c.loop-part.invariant c.loop-part-test.false
