-- The contract of each public function: its one answer, and the one final content of the lent table; and the answer as the paper gives it.
use Rattle.std.specs.Prelude.{Result, Ok, Err, ◌≡◌, List, ℕ, length}
use Rattle.framing.specs.Refusals.{reason_number}
use Rattle.framing.specs.declared.Form.{Form}
use Rattle.framing.specs.declared.refusals.Refusal.{Refusal}
use Rattle.fields.specs.declared.Movement.{Movement}
use Rattle.tables.specs.Tables.{table_answer_of, table_of}

-- number, record and number of movements: zero where the paper says zero
pub record PaperTable : Type 0 where
  pub number : ℕ
  pub at : ℕ
  pub movements : ℕ

abbrev pub paper_table : Result ℕ Refusal → PaperTable
paper_table (Ok n) = record { number = 0; at = 0; movements = n }
paper_table (Err e) = record { number = reason_number e.reason; at = e.«record»; movements = 0 }

-- movements: the answer, and the table's rows
pub record Movements (f : Form) (b : List ℕ) (k : ℕ) (t : List Movement) (r : Result ℕ Refusal) (t' : List Movement) : Type 0 where
  pub answer : r ≡ table_answer_of f b k (length t)
  pub content : t' ≡ table_of f b k t
