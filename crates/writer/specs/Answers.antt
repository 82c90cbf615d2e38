-- The contract of each public function: its one answer, and the one final content of what is lent; and the answer as the paper gives it.
use Rattle.std.specs.Prelude.{Result, Ok, Err, ◌≡◌, List, ℕ, length}
use Rattle.framing.specs.Refusals.{reason_number}
use Rattle.framing.specs.declared.refusals.Refusal.{Refusal}
use Rattle.fields.specs.declared.Movement.{Movement}
use Rattle.contents.specs.declared.Head.{Head}
use Rattle.writer.specs.Writing.{write_answer_of, write_of}

-- number, record and number of bytes: zero where the paper says zero
pub record PaperWrite : Type 0 where
  pub number : ℕ
  pub at : ℕ
  pub bytes : ℕ

abbrev pub paper_write : Result ℕ Refusal → PaperWrite
paper_write (Ok n) = record { number = 0; at = 0; bytes = n }
paper_write (Err e) = record { number = reason_number e.reason; at = e.«record»; bytes = 0 }

-- write_statement
pub record WriteStatement (h : Head) (rows : List Movement) (cs out : List ℕ) (r : Result ℕ Refusal) (out' : List ℕ) : Type 0 where
  pub answer : r ≡ write_answer_of h rows cs (length out)
  pub content : out' ≡ write_of h rows cs out
