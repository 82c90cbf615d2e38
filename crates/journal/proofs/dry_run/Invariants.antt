use Prim.Native.Nat.{◌-◌}
use lib.ListN.{length}
use Rattle.journal.proofs.Dry.{Dry}
use Rattle.journal.proofs.dry_run.Given as goal

abbrev pub invariant-loop-at : goal.invariant-loop-at
invariant-loop-at l = Dry l.journal l.form l.file l.bounds l.count l.taken l.held l.at

abbrev pub decreases-loop-at : goal.decreases-loop-at
decreases-loop-at l = length l.file - l.at
