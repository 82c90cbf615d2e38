-- No second answer and no second content meet the contract.
use mathlib.Core.Path.{◌≡◌, sym, ap, ◌∙◌}
use mathlib.Core.List.{List}
use Prim.Native.Nat.{ℕ}
use Rattle.fields.specs.declared.Movement.{Movement}
use Rattle.contents.specs.declared.Head.{Head}
use Rattle.writer.specs.Answers.{PaperWrite}
use Rattle.writer_c.specs.declared.WriteAnswer.{WriteAnswer}
use Rattle.writer_c.specs.Answers.{WriteStatementInC}

-- the struct that has a record
abbrev answer_from : PaperWrite → WriteAnswer
answer_from p = record { number = p.number; «record» = p.at; bytes = p.bytes }

pub one_write_statement_in_c : {h : Head} {rows : List Movement} {cs out : List ℕ} {r q : WriteAnswer} {x y : List ℕ} → WriteStatementInC h rows cs out r x → WriteStatementInC h rows cs out q y
    → (r ≡ q) × (x ≡ y)
one_write_statement_in_c g h = (ap answer_from (g.answer ∙ sym h.answer), g.content ∙ sym h.content)
