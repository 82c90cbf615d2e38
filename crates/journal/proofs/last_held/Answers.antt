use Rattle.journal.specs.Plans.{number_of}
use Rattle.journal.proofs.Latest.{goes_on, ends}
use Rattle.journal.proofs.last_held.Goals as goal
use Rattle.journal.proofs.last_held.Goals.{then-is_account, else-is_account}

pub loop-e-preserved : goal.loop-e-preserved
loop-e-preserved c =
    let a = c.args in
    goes_on a.journal.now a.count a.key.now (number_of c.loop-e.last) c.loop-e.e c.loop-e.invariant c.loop-e-test.true c.body_at.ensures.answer c.record_at.ensures.answer c.is_account.ensures
    (elim c.if-is_account.branch [ then-is_account w ↦ rw (w.last-is, w.if-is_account.true) | else-is_account w ↦ rw (w.last-is, w.if-is_account.false) ])

pub returns : goal.returns
returns c = let a = c.args in ends a.journal.now a.count a.key.now (number_of c.loop-e.last) c.loop-e.e c.loop-e.invariant c.loop-e-test.false
