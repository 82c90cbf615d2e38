-- No second answer and no second content meet the contract.
use mathlib.Core.Path.{◌≡◌, sym, ap, ◌∙◌}
use mathlib.Core.List.{List}
use Prim.Native.Nat.{ℕ}
use Rattle.framing.specs.declared.Form.{Form}
use Rattle.fields.specs.declared.Movement.{Movement}
use Rattle.tables.specs.Answers.{PaperTable}
use Rattle.tables_c.specs.declared.TableAnswer.{TableAnswer}
use Rattle.tables_c.specs.Answers.{MovementsInC}

-- the struct that has a record
abbrev answer_from : PaperTable → TableAnswer
answer_from p = record { number = p.number; «record» = p.at; movements = p.movements }

pub one_movements_in_c : {f : Form} {b : List ℕ} {k : ℕ} {t u v : List Movement} {r q : TableAnswer} → MovementsInC f b k t r u → MovementsInC f b k t q v → (r ≡ q) × (u ≡ v)
one_movements_in_c g h = (ap answer_from (g.answer ∙ sym h.answer), g.content ∙ sym h.content)
