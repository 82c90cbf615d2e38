use Rattle.journal.specs.Plans.{number_of}
use Rattle.journal.proofs.Latest.{searches_on, stops}
use Rattle.journal.proofs.last_planned.Goals as goal
use Rattle.journal.proofs.last_planned.Goals.{then-is_account, else-is_account}

pub loop-p-preserved : goal.loop-p-preserved
loop-p-preserved c =
    let a = c.args in
    searches_on a.parts.file.now a.parts.bounds.now a.key.now (number_of c.loop-p.last) c.loop-p.p c.loop-p.invariant c.loop-p-test.true c.bytes.ensures c.record_at.ensures.answer c.is_account.ensures
    (elim c.if-is_account.branch [ then-is_account w ↦ rw (w.last-is, w.if-is_account.true) | else-is_account w ↦ rw (w.last-is, w.if-is_account.false) ])

pub returns : goal.returns
returns c = let a = c.args in stops a.parts.file.now a.parts.bounds.now a.key.now (number_of c.loop-p.last) c.loop-p.p c.loop-p.invariant c.loop-p-test.false
