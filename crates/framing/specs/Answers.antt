-- The contract of each public function: its one answer, and the answer as the paper gives it.
use Rattle.std.specs.Prelude.{Result, Ok, Err, ◌≡◌, Bool, not, List, ℕ}
use Rattle.zones.specs.Copy.{same_bytes}
use Rattle.framing.specs.Files.{end_of}
use Rattle.framing.specs.Frames.{frame_of, frame_by}
use Rattle.framing.specs.declared.Form.{Form}
use Rattle.framing.specs.declared.Frame.{Frame}
use Rattle.framing.specs.declared.refusals.Refusal.{Refusal}
use Rattle.framing.specs.Refusals.{reason_number, refusal_by}
use Rattle.framing.specs.declared.refusals.Reason.{Reason}

-- number, record and number of records: zero where the paper says zero. The width is the form's, and no part of the paper's answer.
pub record PaperFrame : Type 0 where
  pub number : ℕ
  pub at : ℕ
  pub records : ℕ

abbrev pub paper_frame : Result Frame Refusal → PaperFrame
paper_frame (Ok c) = record { number = 0; at = 0; records = c.count }
paper_frame (Err e) = record { number = reason_number e.reason; at = e.«record»; records = 0 }

-- cut
pub record Cut (f : Form) (size most : ℕ) (b : List ℕ) (r : Result Frame Refusal) : Type 0 where
  pub answer : r ≡ frame_of f size most b

-- cut_length
pub record CutLength (f : Form) (size most n : ℕ) (r : Result Frame Refusal) : Type 0 where
  pub answer : r ≡ frame_by f size most n

-- wrong_end
pub record WrongEnd (f : Form) (after : List ℕ) (r : Bool) : Type 0 where
  pub answer : r ≡ not (same_bytes after (end_of f))

-- refusals::number
pub record Numbers (u : Reason) (r : ℕ) : Type 0 where
  pub answer : r ≡ reason_number u

-- refusals::at
pub record RefusedAt (u : Reason) (at : ℕ) (r : Refusal) : Type 0 where
  pub answer : r ≡ refusal_by u at
