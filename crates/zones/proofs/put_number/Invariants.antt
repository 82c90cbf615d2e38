use Rattle.std.proofs.Common.{◌≡◌, length, drop}
use Rattle.zones.specs.Number.{digits_into, digits_of}
use Rattle.zones.proofs.put_number.Given as goal

abbrev pub invariant-loop-i : goal.invariant-loop-i
invariant-loop-i l = digits_into l.i l.rest (drop l.i l.out) ≡ digits_of (length l.initial.out) l.n
