-- A row of records judged one after another. Nothing here knows what a record is.
use Rattle.std.specs.Prelude.{Bool, List, [], ◌∷◌, ℕ, ◌+◌, eqb}
use Rattle.zones.specs.Choice.{pick}
use Rattle.grammar.specs.Answer.{Rule, first_of, Counts, Answer, accepted, refused}

pub record Machine : Type 1 where
  pub State : Type 0
  pub Record : Type 0
  pub rules : State → Record → List Rule
  pub taken : State → Record → State
  pub closed : State → Bool
  pub counts : State → Counts

module _ (M : Machine) where
  unfoldable pub judge_of : M.State → M.Record → ℕ
  judge_of s r = first_of (M.rules s r)

  -- what is answered from here on: i records are behind, the state is s
  unfoldable pub scan : ℕ → M.State → List M.Record → Answer
  scan i s [] = pick (M.closed s) (accepted (M.counts s)) (refused 14 i)
  scan i s (r ∷ rs) = pick (eqb (judge_of s r) 0) (scan (i + 1) (M.taken s r) rs) (refused (judge_of s r) (i + 1))

  -- the state after some records, whatever they hold
  abbrev pub after : M.State → List M.Record → M.State
  after s [] = s
  after s (r ∷ rs) = after (M.taken s r) rs
