-- The contract of the exported function: the library's one answer as a struct, and the one final content of the lent output.
use Rattle.std.specs.Prelude.{◌≡◌, List, ℕ, length}
use Rattle.fields.specs.declared.Movement.{Movement}
use Rattle.contents.specs.declared.Head.{Head}
use Rattle.writer.specs.Writing.{write_answer_of, write_of}
use Rattle.writer.specs.Answers.{PaperWrite, paper_write}
use Rattle.writer_c.specs.declared.WriteAnswer.{WriteAnswer}

-- the struct's numbers as the paper's record
abbrev pub in_paper : WriteAnswer → PaperWrite
in_paper a = record { number = a.number; at = a.«record»; bytes = a.bytes }

-- write_statement
pub record WriteStatementInC (h : Head) (rows : List Movement) (cs out : List ℕ) (r : WriteAnswer) (out' : List ℕ) : Type 0 where
  pub answer : in_paper r ≡ paper_write (write_answer_of h rows cs (length out))
  pub content : out' ≡ write_of h rows cs out
