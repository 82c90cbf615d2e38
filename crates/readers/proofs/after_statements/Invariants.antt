use mathlib.Core.Path.{◌≡◌}
use Prim.Native.Nat.{◌-◌}
use Rattle.readers.specs.Places.{ends_after}
use Rattle.readers.proofs.after_statements.Given as goal

abbrev pub invariant-loop : goal.invariant-loop
invariant-loop l = ends_after l.form l.file (l.skip - l.counter) l.at ≡ ends_after l.form l.file l.skip 0
