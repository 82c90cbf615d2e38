-- What the private functions require. The promises of the journal give it for every account held.
use Rattle.std.specs.Prelude.{◌≡◌, true, List, [], ◌∷◌, ◌++◌, map, ℕ, zero, suc, ◌+◌, ◌-◌, ◌^◌, ◌<◌, length, get_or, ℤ, pos, nat_abs, ◌+ℤ◌}
use Rattle.zones.specs.Choice.{pick}
use Rattle.framing.specs.Files.{All, plain}
use Rattle.dates.specs.Ordinals.{ordinal_of}
use Rattle.grammar.specs.Statements.{Statement}
use Rattle.grammar.specs.Files.{Reads}
use Rattle.records.specs.July.{coding_of}
use Rattle.fields.specs.declared.Valued.{Valued}
use Rattle.journal_layout.specs.Chains.{of_account}
use Rattle.journal_layout.specs.Test.{held_of}
use Rattle.journal.specs.Newest.{key_size, key_from}
use Rattle.journal.specs.Holdings.{body_in, of_account_in}
use Rattle.cash.specs.Value.{movements_of}
use Rattle.cash.specs.declared.Span.{Span}
use Rattle.cash.specs.Spans.{span_days}
use Rattle.cash.specs.Buckets.{dated, dated_in, running, filled}

-- the span from one day to another
abbrev pub span_from : (first last : ℕ) → Span
span_from first last = record { from = ordinal_of first; days = span_days first last }

-- the number of an account's first entry among n from entry e on, which counts from 0; 0 where there is none
unfoldable pub first_from : (n e : ℕ) → (j x : List ℕ) → ℕ
first_from zero e j x = 0
first_from (suc n) e j x = pick (of_account_in x (body_in j (e + 1))) (e + 1) (first_from n (e + 1) j x)

-- each movement in turn, added at its place, gives a number that fits an i64
abbrev pub Room : List ℤ → (first : ℕ) → List Valued → Type 0
Room t first ms =
    (xs ys : List Valued) (m : Valued) → ms ≡ xs ++ (m ∷ ys) → m.value - first < length t
    → nat_abs (get_or (filled first t xs) (m.value - first) (pos 0) +ℤ m.amount) < 2 ^ 63

-- the movements of a body
pub record Adding (t : List ℤ) (first : ℕ) (b : List ℕ) : Type 0 where
  pub one : Statement
  pub reads : Reads (coding_of plain) plain b (one ∷ [])
  pub room : Room t first (dated_in one)

-- of one that may be the account's
pub record Entering (t : List ℤ) (first : ℕ) (x b : List ℕ) : Type 0 where
  pub one : Statement
  pub reads : Reads (coding_of plain) plain b (one ∷ [])
  pub room : of_account_in x b ≡ true → Room t first (dated_in one)

-- the movements of an account
pub record Filling (t : List ℤ) (first : ℕ) (j x : List ℕ) : Type 0 where
  pub key : length x ≡ key_size
  pub room : Room t first (map dated (movements_of (key_from x) (held_of j)))

-- every running sum fits an i64
abbrev pub Runs : List ℤ → Type 0
Runs t = All (λ (z : ℤ). nat_abs z < 2 ^ 63) (running (pos 0) t)

-- an account with its first statement
pub record Opening (b : ℤ) (j x : List ℕ) : Type 0 where
  pub key : length x ≡ key_size
  pub first : Statement
  pub rest : List Statement
  pub list : of_account (key_from x) (held_of j) ≡ first ∷ rest
  pub balance : b ≡ first.old_balance
