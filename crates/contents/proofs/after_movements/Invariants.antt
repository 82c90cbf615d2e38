use mathlib.Core.Path.{◌≡◌}
use Prim.Native.Nat.{◌-◌}
use Rattle.contents.specs.Movements.{steps_after}
use Rattle.contents.proofs.after_movements.Given as goal

abbrev pub invariant-loop : goal.invariant-loop
invariant-loop l = steps_after l.form l.part (l.skip - l.counter) l.at ≡ steps_after l.form l.part l.skip l.start
