-- What the code works on: each movement goes once into the place of its day, then one pass makes running sums. Days are ordinals.
use Rattle.std.specs.Prelude.{List, [], ◌∷◌, map, ℕ, zero, suc, ◌-◌, get_or, set, replicate, ℤ, pos, ◌+ℤ◌}
use Rattle.dates.specs.Ordinals.{ordinal_of}
use Rattle.grammar.specs.Statements.{Statement}
use Rattle.fields.specs.declared.Valued.{Valued}
use Rattle.cash.specs.Value.{valued, value_at}

-- a movement with the ordinal of its value date
abbrev pub dated : Valued → Valued
dated m = record { value = ordinal_of m.value; amount = m.amount }

-- the movements of a statement, so
unfoldable pub dated_in : Statement → List Valued
dated_in s = map dated (map valued s.movements)

-- the row of a span: an amount for each of n days from one on
unfoldable pub row_of : ℤ → List Valued → (first n : ℕ) → List ℤ
row_of b ms first zero = []
row_of b ms first (suc n) = value_at b ms first ∷ row_of b ms (suc first) n

-- each number plus all before it
unfoldable pub running : ℤ → List ℤ → List ℤ
running z [] = []
running z (x ∷ xs) = (z +ℤ x) ∷ running (z +ℤ x) xs

-- an amount added at a place; nothing past the end
unfoldable pub bump : List ℤ → ℕ → ℤ → List ℤ
bump t i a = set t i (get_or t i (pos 0) +ℤ a)

-- every movement at its day; those before the span stand at its first day, those after it nowhere
unfoldable pub filled : (first : ℕ) → List ℤ → List Valued → List ℤ
filled first t [] = t
filled first t (m ∷ ms) = filled first (bump t (m.value - first) m.amount) ms

-- n more days than one, the balance at the first
abbrev pub opened : ℤ → ℕ → List ℤ
opened b n = b ∷ replicate n (pos 0)
