-- RUNS OF DELIVERIES, each named as one account's, and what an account has of a run.
use Rattle.std.specs.Prelude.{◌≡◌, List, [], ◌∷◌, ℕ, Result}
use Rattle.zones.specs.Choice.{pick}
use Rattle.framing.specs.declared.Form.{Form}
use Rattle.framing.specs.Files.{All}
use Rattle.grammar.specs.declared.Key.{Key}
use Rattle.grammar.specs.Record.{same_key}
use Rattle.grammar.specs.Statements.{Statement}
use Rattle.grammar.specs.Files.{Reads}
use Rattle.records.specs.July.{coding_of}
use Rattle.journal.specs.declared.Delivery.{Delivery}
use Rattle.journal.specs.declared.Rejection.{Rejection}
use Rattle.journal.specs.Answers.{paper_delivery}
use Rattle.journal.specs.Series.{Event, deliver, Deliver}

-- a delivery, and beside it the account that it is named as: the name is no input
pub record Sent : Type 0 where
  pub name : Key
  pub form : Form
  pub file : List ℕ

-- each statement of a file that the check accepts is as P says; one that it refuses, or of no bytes, has none
abbrev pub EachStatement : (Statement → Type 0) → Form → List ℕ → Type 0
EachStatement P f b = (ss : List Statement) → Reads (coding_of f) f b ss → All P ss

-- a file that the check accepts holds only the named account's statements
abbrev pub Named : List Sent → Type 0
Named run = All (λ s. EachStatement (λ t. t.key ≡ s.name) s.form s.file) run

-- as much of it as the account k needs: what is named as its own holds only its statements, and what is named as another's holds none of them
abbrev pub Apart : Key → List Sent → Type 0
Apart k run = All (λ s. EachStatement (λ t. same_key t.key k ≡ same_key s.name k) s.form s.file) run

-- the deliveries of a run, and those of them that are named as the account k's
unfoldable pub events_of : List Sent → List Event
events_of [] = []
events_of (s ∷ run) = deliver s.form s.file ∷ events_of run

unfoldable pub for_account : Key → List Sent → List Sent
for_account k [] = []
for_account k (s ∷ run) = pick (same_key s.name k) (s ∷ for_account k run) (for_account k run)

module _ (D : Deliver) where
  -- the answers to a run in order, and those to the deliveries that are named as the account k's
  unfoldable pub answers_of : List ℕ → List Sent → List (Result Delivery Rejection)
  answers_of j [] = []
  answers_of j (s ∷ run) = (D j s.form s.file).answer ∷ answers_of (D j s.form s.file).journal run

  unfoldable pub answers_for : Key → List ℕ → List Sent → List (Result Delivery Rejection)
  answers_for k j [] = []
  answers_for k j (s ∷ run) =
      pick (same_key s.name k) ((D j s.form s.file).answer ∷ answers_for k (D j s.form s.file).journal run)
      (answers_for k (D j s.form s.file).journal run)

-- an answer that is neither 23 nor 24
pub record HadRoom (a : Result Delivery Rejection) : Type 0 where
  pub not_23 : (paper_delivery a).number ≡ 23 → ⊥
  pub not_24 : (paper_delivery a).number ≡ 24 → ⊥
