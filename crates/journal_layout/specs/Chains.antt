-- What the held statements say of another one, and an unbroken chain for each account. The account is the whole key.
use Rattle.std.specs.Prelude.{◌≡◌, Bool, true, false, ◌&&◌, ◌||◌, List, [], ◌∷◌, ℕ, ◌≤◌, leb, ℤ}
use Rattle.zones.specs.Choice.{pick}
use Rattle.framing.specs.Files.{All}
use Rattle.grammar.specs.declared.Key.{Key}
use Rattle.grammar.specs.Record.{same_key, same_amount}
use Rattle.grammar.specs.Statements.{Statement}
use Rattle.bodies.specs.Bodies.{body_of, identical}
use Rattle.journal_layout.specs.declared.Judgement.{Judgement}
use Rattle.journal_layout.specs.declared.Judgement.TheVariants.{Held, First, After}

-- one of them has identical records
unfoldable pub held_among : Statement → List Statement → Bool
held_among s [] = false
held_among s (h ∷ hs) = identical h s || held_among s hs

-- the new date and new balance of an account's last statement; as before where it has none
unfoldable pub last_among : Key → Judgement → List Statement → Judgement
last_among k last [] = last
last_among k last (h ∷ hs) = last_among k (pick (same_key h.key k) (After h.new_date h.new_balance) last) hs

-- held, the first of its account, or after the account's last
unfoldable pub judgement_of : Statement → List Statement → Judgement
judgement_of s hs = pick (held_among s hs) Held (last_among s.key First hs)

-- Same balance, at or after the last new date: between the two dates may lie days without an accounting update. A held statement follows nothing; an account's first may begin anywhere.
abbrev pub follows_by : Judgement → (date : ℕ) → (balance : ℤ) → Bool
follows_by Held d a = false
follows_by First d a = true
follows_by (After date balance) d a = leb date d && same_amount balance a

-- if its account has one, it must follow the last
abbrev pub follows : Statement → List Statement → Bool
follows s hs = follows_by (judgement_of s hs) s.old_date s.old_balance

-- THE CHAIN: each statement of an account links to the one before it. It begins on the day of that one's new date or later, with that one's new balance.
pub record Links (s t : Statement) : Type 0 where
  pub date : s.new_date ≤ t.old_date
  pub balance : s.new_balance ≡ t.old_balance

-- in an unbroken chain: each with the next
abbrev pub Chained : List Statement → Type 0
Chained [] = Unit
Chained (s ∷ []) = Unit
Chained (s ∷ t ∷ ts) = Links s t × Chained (t ∷ ts)

-- the statements of an account
unfoldable pub of_account : Key → List Statement → List Statement
of_account k [] = []
of_account k (s ∷ ss) = pick (same_key s.key k) (s ∷ of_account k ss) (of_account k ss)

-- new dates never fall: of the later ones none is earlier
abbrev pub NeverFalls : List Statement → Type 0
NeverFalls [] = Unit
NeverFalls (s ∷ ss) = All (λ t. s.new_date ≤ t.new_date) ss × NeverFalls ss

-- no two have identical records
abbrev pub Distinct : List Statement → Type 0
Distinct [] = Unit
Distinct (s ∷ ss) = All (λ t. body_of s ≡ body_of t → ⊥) ss × Distinct ss
