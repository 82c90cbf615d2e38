use mathlib.Core.Path.{◌≡◌}
use Rattle.statements.proofs.Loop.{Going}
use Rattle.statements.proofs.scan.Given as goal

abbrev pub invariant-loop-i : goal.invariant-loop-i
invariant-loop-i l =
    Going l.form l.frame.width l.frame.count l.file l.p l.i-iterator.count l.i-iterator.iter.rest.now × (l.i-iterator.iter.size ≡ l.frame.width)
