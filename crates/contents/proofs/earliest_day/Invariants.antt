use Prim.Native.Nat.{◌-◌}
use lib.ListN.{length}
use Rattle.contents.proofs.Passing.{Passing}
use Rattle.contents.proofs.earliest_day.Given as goal

abbrev pub invariant-loop-at : goal.invariant-loop-at
invariant-loop-at l = Passing l.form l.file l.day l.at

abbrev pub decreases-loop-at : goal.decreases-loop-at
decreases-loop-at l = length l.file - l.at
