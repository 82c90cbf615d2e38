-- The contract of each public function: its one answer, and the answer as the paper gives it.
use Rattle.std.specs.Prelude.{◌≡◌, List, ℕ, Result, Ok, Err, replicate}
use Rattle.framing.specs.declared.Form.{Form}
use Rattle.grammar.specs.Files.{check_of}
use Rattle.records.specs.July.{coding_of, text_size}
use Rattle.contents.specs.Heads.{record_at_of, no_head, head_in, movements_in}
use Rattle.contents.specs.Movements.{movement_in, complement_in}
use Rattle.contents.specs.Earliest.{beginning_of}
use Rattle.framing.specs.Refusals.{reason_number}
use Rattle.framing.specs.declared.refusals.Refusal.{Refusal}
use Rattle.fields.specs.Rows.{no_row}
use Rattle.fields.specs.declared.Movement.{Movement}
use Rattle.contents.specs.declared.Head.{Head}
use Rattle.contents.specs.declared.Summary.{Summary}

-- number, record and day: zero where the paper says zero
pub record PaperBeginning : Type 0 where
  pub number : ℕ
  pub at : ℕ
  pub day : ℕ

abbrev pub paper_beginning : Result ℕ Refusal → PaperBeginning
paper_beginning (Ok d) = record { number = 0; at = 0; day = d }
paper_beginning (Err e) = record { number = reason_number e.reason; at = e.«record»; day = 0 }

-- of a head, a movement and a complement likewise: on refusal every number and byte is 0
pub record PaperHead : Type 0 where
  pub number : ℕ
  pub at : ℕ
  pub head : Head
  pub movements : ℕ

abbrev pub paper_head : Result Summary Refusal → PaperHead
paper_head (Ok s) = record { number = 0; at = 0; head = s.head; movements = s.movements }
paper_head (Err e) = record { number = reason_number e.reason; at = e.«record»; head = no_head; movements = 0 }

pub record PaperMovement : Type 0 where
  pub number : ℕ
  pub at : ℕ
  pub movement : Movement

abbrev pub paper_movement : Result Movement Refusal → PaperMovement
paper_movement (Ok m) = record { number = 0; at = 0; movement = m }
paper_movement (Err e) = record { number = reason_number e.reason; at = e.«record»; movement = no_row }

pub record PaperText : Type 0 where
  pub number : ℕ
  pub at : ℕ
  pub text : List ℕ

abbrev pub paper_text : Result (List ℕ) Refusal → PaperText
paper_text (Ok t) = record { number = 0; at = 0; text = t }
paper_text (Err e) = record { number = reason_number e.reason; at = e.«record»; text = replicate text_size 0 }

-- record_at
pub record RecordAt (b : List ℕ) (at : ℕ) (r : List ℕ) : Type 0 where
  pub answer : r ≡ record_at_of b at

-- movements_in
pub record MovementsIn (f : Form) (b : List ℕ) (r : ℕ) : Type 0 where
  pub answer : r ≡ movements_in (check_of (coding_of f) f b)

-- head_of
pub record HeadOf (f : Form) (b : List ℕ) (k : ℕ) (r : Result Summary Refusal) : Type 0 where
  pub answer : r ≡ head_in f b k

-- movement_of
pub record MovementOf (f : Form) (b : List ℕ) (k i : ℕ) (r : Result Movement Refusal) : Type 0 where
  pub answer : r ≡ movement_in f b k i

-- complement_of
pub record ComplementOf (f : Form) (b : List ℕ) (k i j : ℕ) (r : Result (List ℕ) Refusal) : Type 0 where
  pub answer : r ≡ complement_in f b k i j

-- earliest
pub record EarliestIn (f : Form) (b : List ℕ) (r : Result ℕ Refusal) : Type 0 where
  pub answer : r ≡ beginning_of f b
