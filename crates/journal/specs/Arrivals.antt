-- The statements of files in order of first arrival, and the sum of an account's movements.
use Rattle.std.specs.Prelude.{◌≡◌, List, [], ◌∷◌, ◌++◌, ℕ, ◌+◌, ◌*◌, ℤ}
use Rattle.zones.specs.Choice.{pick}
use Rattle.grammar.specs.declared.Key.{Key}
use Rattle.grammar.specs.Record.{same_key}
use Rattle.grammar.specs.Statements.{Movement, Statement, plus}
use Rattle.grammar.specs.Parts.{size_of}
use Rattle.journal_layout.specs.Chains.{held_among}

-- those of ss that no earlier one is identical to, behind those of hs
unfoldable pub arrivals : List Statement → List Statement → List Statement
arrivals hs [] = []
arrivals hs (s ∷ ss) = pick (held_among s hs) (arrivals hs ss) (s ∷ arrivals (hs ++ (s ∷ [])) ss)

-- where they stand in their file, in records of w bytes: so many records are behind
pub record Span : Type 0 where
  pub first : ℕ
  pub len : ℕ

abbrev pub span : ℕ → ℕ → Span
span x n = record { first = x; len = n }

unfoldable pub spans_of : (w : ℕ) → List Statement → (behind : ℕ) → List Statement → List Span
spans_of w hs behind [] = []
spans_of w hs behind (s ∷ ss) =
    pick (held_among s hs) (spans_of w hs (behind + size_of s) ss)
    (span (behind * w) (size_of s * w) ∷ spans_of w (hs ++ (s ∷ [])) (behind + size_of s) ss)

-- the number of an account's last statement, from 1; as before where it has none. i are behind.
unfoldable pub last_index : Key → (i last : ℕ) → List Statement → ℕ
last_index k i last [] = last
last_index k i last (s ∷ ss) = last_index k (i + 1) (pick (same_key s.key k) (i + 1) last) ss

-- every movement of some statements
unfoldable pub movements_in : List Statement → List Movement
movements_in [] = []
movements_in (s ∷ ss) = s.movements ++ movements_in ss

-- the new balance of the last of some statements
abbrev pub last_balance : Statement → List Statement → ℤ
last_balance s [] = s.new_balance
last_balance s (t ∷ ts) = last_balance t ts

-- The first old balance plus every movement is the last new balance.
abbrev pub Summed : List Statement → Type 0
Summed [] = Unit
Summed (s ∷ ss) = plus s.old_balance (movements_in (s ∷ ss)) ≡ last_balance s ss
