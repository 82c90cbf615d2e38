use native.Mathlib.Omega.{arith}
use Rattle.journal.proofs.Storing.{begins, next, goes_on, all_stored}
use Rattle.journal.proofs.store_all.Goals as goal

pub loop-p-init : goal.loop-p-init
loop-p-init c = record { whole = c.requires; left = begins c.requires }

pub loop-p-preserved : goal.loop-p-preserved
loop-p-preserved c =
    let g = c.loop-p.invariant in
    let t = c.loop-p-test.true in
    let x = next g.whole g.left t in
    let y = x.lines_there in
    let z = g.left.same in
    let s = c.store-k.ensures x.s (rw c.bytes.ensures x.part) (omega arith) in
    record { whole = g.whole; left = goes_on g.whole g.left t c.store-k.auto.journal s.0 s.1 }

pub returns : goal.returns
returns c = all_stored c.loop-p.invariant c.loop-p-test.false
