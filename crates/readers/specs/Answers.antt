-- The contract of each public function: its one answer, and the answer as the paper gives it.
use Rattle.std.specs.Prelude.{Option, Result, Ok, Err, ◌≡◌, List, ℕ}
use Rattle.framing.specs.declared.Form.{Form}
use Rattle.readers.specs.Places.{end_after, place_of, statement_in, bytes_at}
use Rattle.readers.specs.Steps.{step_of}
use Rattle.readers.specs.declared.Step.{Step}
use Rattle.readers.specs.declared.Place.{Place}
use Rattle.framing.specs.Refusals.{reason_number}
use Rattle.framing.specs.declared.refusals.Refusal.{Refusal}

-- number, record, first byte and length: zero where the paper says zero
pub record PaperPlace : Type 0 where
  pub number : ℕ
  pub at : ℕ
  pub first : ℕ
  pub len : ℕ

abbrev pub paper_place : Result Place Refusal → PaperPlace
paper_place (Ok p) = record { number = 0; at = 0; first = p.first; len = p.len }
paper_place (Err e) = record { number = reason_number e.reason; at = e.«record»; first = 0; len = 0 }

-- Place::part
pub record PlacePart (p : Place) (b r : List ℕ) : Type 0 where
  pub answer : r ≡ bytes_at p b

-- statement_end
pub record StatementEnd (f : Form) (b : List ℕ) (at r : ℕ) : Type 0 where
  pub answer : r ≡ end_after f b at

-- statement_place
pub record StatementPlace (f : Form) (b : List ℕ) (k : ℕ) (r : Result Place Refusal) : Type 0 where
  pub answer : r ≡ place_of f b k

-- statement
pub record StatementPart (f : Form) (b : List ℕ) (k : ℕ) (r : List ℕ) : Type 0 where
  pub answer : r ≡ statement_in f b k

-- movement_step
pub record MovementStep (b : List ℕ) (f : Form) (at : ℕ) (r : Option Step) : Type 0 where
  pub answer : r ≡ step_of b f at
