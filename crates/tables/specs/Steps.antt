-- What the code does on its way: one row after another, by a plan.
use Rattle.std.specs.Prelude.{◌≡◌, Result, Ok, Err, List, [], ◌∷◌, ℕ, zero, suc, ◌≤◌, length}
use Rattle.framing.specs.declared.Form.{Form}
use Rattle.framing.specs.declared.refusals.Refusal.{Refusal}
use Rattle.fields.specs.Rows.{row_at_of}
use Rattle.fields.specs.declared.Movement.{Movement}
use Rattle.readers.specs.Steps.{step_of, next_of, complements_of}
use Rattle.contents.specs.Heads.{record_at_of}
use Rattle.tables.specs.declared.RowStep.{RowStep}
use Rattle.tables.specs.declared.Plan.{Plan}
use Rattle.tables.specs.Tables.{laid, table_answer_of, table_of}

-- the row of the movement at a place, and the place after it
unfoldable pub row_step_of : List ℕ → Form → (at : ℕ) → RowStep
row_step_of b f at = record { row = row_at_of (record_at_of b at) (complements_of (step_of b f at)); next = next_of (length b) (step_of b f at) }

-- so many rows from a place on
unfoldable pub rows_from : List ℕ → Form → (at n : ℕ) → List Movement
rows_from b f at zero = []
rows_from b f at (suc n) = (row_step_of b f at).row ∷ rows_from b f (row_step_of b f at).next n

-- what fills a table of so many rows, and with it the answer
pub record Filling (f : Form) (b : List ℕ) (k table : ℕ) (p : Plan) : Type 0 where
  pub inside : p.rows ≤ table
  pub answer : Ok p.rows ≡ table_answer_of f b k table
  pub content : (t : List Movement) → length t ≡ table → laid (rows_from p.part.now f p.at p.rows) t ≡ table_of f b k t

-- a refusal fills no row
pub record Refusing (f : Form) (b : List ℕ) (k table : ℕ) (e : Refusal) : Type 0 where
  pub answer : Err e ≡ table_answer_of f b k table
  pub content : (t : List Movement) → length t ≡ table → t ≡ table_of f b k t

abbrev pub Planned : Form → List ℕ → (k table : ℕ) → Result Plan Refusal → Type 0
Planned f b k table (Ok p) = Filling f b k table p
Planned f b k table (Err e) = Refusing f b k table e
