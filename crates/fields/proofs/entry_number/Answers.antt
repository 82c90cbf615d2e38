use mathlib.Core.Path.{◌≡◌}
use Prim.Native.Nat.{◌+◌, ◌*◌, ◌^◌, ◌≤◌}
use native.Mathlib.Omega.{arith}
use Rattle.zones.specs.Number.{value_of}
use Rattle.zones.proofs.Called.{number_value}
use Rattle.zones.proofs.Decimal.{value_most}
use Rattle.fields.proofs.entry_number.Goals as goal
use Rattle.fields.proofs.entry_number.Goals.{After-number}

-- seven bytes are worth less than 2 ^ 32
value : (c : After-number) → c.number.result ≡ value_of c.args.s.now
value c = number_value c.number.ensures (omega (arith, c.requires))

small : (c : After-number) → 3 * c.number.result + 5 ≤ 5 * 10 ^ 7
small c = rw (value c) (rw c.requires at (value_most c.args.s.now))

pub overflow_cast-result : goal.overflow_cast-result
overflow_cast-result c = omega (arith, small c)

pub returns : goal.returns
returns c = value c
