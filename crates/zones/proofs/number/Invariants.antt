use Rattle.std.proofs.Common.{◌≡◌, take}
use Rattle.zones.specs.Number.{value_of}
use Rattle.zones.proofs.number.Given as goal

abbrev pub invariant-loop-b : goal.invariant-loop-b
invariant-loop-b l = l.n ≡ value_of (take l.b-index l.s)
