-- The contract of the exported function: the library's one answer as a struct, and the one final content of the lent table.
use Rattle.std.specs.Prelude.{◌≡◌, List, ℕ, length}
use Rattle.framing.specs.declared.Form.{Form}
use Rattle.fields.specs.declared.Movement.{Movement}
use Rattle.tables.specs.Tables.{table_answer_of, table_of}
use Rattle.tables.specs.Answers.{PaperTable, paper_table}
use Rattle.tables_c.specs.declared.TableAnswer.{TableAnswer}

-- the struct's numbers as the paper's record
abbrev pub in_paper : TableAnswer → PaperTable
in_paper a = record { number = a.number; at = a.«record»; movements = a.movements }

-- movements
pub record MovementsInC (f : Form) (b : List ℕ) (k : ℕ) (t : List Movement) (r : TableAnswer) (t' : List Movement) : Type 0 where
  pub answer : in_paper r ≡ paper_table (table_answer_of f b k (length t))
  pub content : t' ≡ table_of f b k t
