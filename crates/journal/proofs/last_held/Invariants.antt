use mathlib.Core.Path.{◌≡◌}
use Prim.Native.Nat.{◌-◌}
use Rattle.journal.specs.Newest.{last_held_from}
use Rattle.journal.specs.Plans.{number_of}
use Rattle.journal.proofs.last_held.Given as goal

abbrev pub invariant-loop-e : goal.invariant-loop-e
invariant-loop-e l = last_held_from (l.count - l.e) l.e (number_of l.last) l.journal l.key ≡ last_held_from l.count 0 0 l.journal l.key
