-- What the journal promises of an account's amounts, and sums of some of them.
use mathlib.Core.Path.{◌≡◌}
use mathlib.Core.List.{List, [], ◌∷◌}
use Prim.Native.Nat.{ℕ, ◌+◌, ◌*◌, ◌/◌, ◌≤◌}
use lib.ListN.{length}
use lib.IntN.{ℤ, nat_abs, ◌+ℤ◌}
use Rattle.amounts.specs.Amounts.{most_amount}
use Rattle.framing.specs.Files.{All}
use Rattle.fields.specs.declared.Valued.{Valued}
use Rattle.journal_layout.specs.Layout.{most_lines}
use Rattle.cash.specs.Value.{total}

-- no sum of some movements passes this, nor does one on top of the first balance
abbrev pub most_sum : ℕ
most_sum = (most_lines / 2 + 1) * most_amount

abbrev pub Small : ℤ → Type 0
Small z = nat_abs z ≤ most_amount

-- The first old balance plus every movement is the last new balance; each movement has a line of its own.
pub record Tied (first last : ℤ) (ms : List Valued) : Type 0 where
  pub opens : Small first
  pub closes : Small last
  pub each : All (λ (m : Valued). Small m.amount) ms
  pub few : length ms ≤ most_lines
  pub tie : first +ℤ total ms ≡ last

-- some elements of a list, in their order
pub data Part : List Valued → List Valued → Type 0 where
  none : Part [] []
  kept : {m : Valued} {ts ms : List Valued} → Part ts ms → Part (m ∷ ts) (m ∷ ms)
  left : {m : Valued} {ts ms : List Valued} → Part ts ms → Part ts (m ∷ ms)
