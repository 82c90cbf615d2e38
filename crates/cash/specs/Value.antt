-- THE BALANCE IN VALUE of an account at the end of a day: its first old balance held plus all movements whose value date is that day or earlier.
use Rattle.std.specs.Prelude.{Bool, List, [], ◌∷◌, map, ℕ, leb, eqb, ℤ, pos, ◌+ℤ◌}
use Rattle.zones.specs.Choice.{pick}
use Rattle.grammar.specs.declared.Key.{Key}
use Rattle.grammar.specs.Statements.{Movement, Statement}
use Rattle.fields.specs.declared.Valued.{Valued}
use Rattle.fields.specs.Rows.{valued_of}
use Rattle.journal_layout.specs.Chains.{of_account}
use Rattle.journal.specs.Arrivals.{movements_in}

-- of a movement its value date and its amount count, and nothing else
abbrev pub valued : Movement → Valued
valued m = valued_of m.posting

-- the movements held of an account
unfoldable pub movements_of : Key → List Statement → List Valued
movements_of k ss = map valued (movements_in (of_account k ss))

-- the old balance of the first of some statements
abbrev pub first_balance : List Statement → ℤ
first_balance [] = pos 0
first_balance (s ∷ ss) = s.old_balance

unfoldable pub total : List Valued → ℤ
total [] = pos 0
total (m ∷ ms) = m.amount +ℤ total ms

-- those that pass a test
unfoldable pub chosen : (Valued → Bool) → List Valued → List Valued
chosen p [] = []
chosen p (m ∷ ms) = pick (p m) (m ∷ chosen p ms) (chosen p ms)

-- a balance and all movements whose value date is that day or earlier
unfoldable pub value_at : ℤ → List Valued → (day : ℕ) → ℤ
value_at b ms day = b +ℤ total (chosen (λ m. leb m.value day) ms)

-- of the statements ss, those of the account k
unfoldable pub balance_at : Key → (day : ℕ) → List Statement → ℤ
balance_at k day ss = value_at (first_balance (of_account k ss)) (movements_of k ss) day

-- the movements valued on a day
unfoldable pub sum_on : List Valued → (day : ℕ) → ℤ
sum_on ms day = total (chosen (λ m. eqb m.value day) ms)
