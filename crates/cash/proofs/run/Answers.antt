use native.Mathlib.Omega.{arith}
use lib.IntN.{pos}
use lib.ListN.{get_or}
use mir.Syntax.{w64}
use mir.Val.{SFits}
use mir.Facts.{to_z-of_z}
use borrow.Author.Rules.{rules}
use Rattle.amounts.proofs.Whole.{fits_abs}
use Rattle.cash.proofs.Loops.{ran_bound, ran_again, ran_end}
use Rattle.cash.proofs.run.Goals as goal

pub overflow_add-sum : goal.overflow_add-sum
overflow_add-sum c =
    let l = c.loop-x in
    let f : SFits w64 (get_or l.table l.x-index (pos 0)) = search rules in
    rw (to_z-of_z f) (fits_abs _ (ran_bound l.invariant c.requires (omega arith)))

pub loop-x-preserved : goal.loop-x-preserved
loop-x-preserved c = ran_again c.requires c.loop-x.invariant (omega arith) (search rules)

pub returns : goal.returns
returns c = ran_end c.loop-x.invariant (omega arith)
