-- No second answer meets a contract, and no second final content.
use mathlib.Core.Path.{◌≡◌, sym, ◌∙◌}
use mathlib.Core.Bool.{Bool}
use mathlib.Core.List.{List}
use Prim.Native.Nat.{ℕ}
use lib.IntN.{ℤ}
use Rattle.grammar.specs.declared.Key.{Key}
use Rattle.fields.specs.declared.Movement.{Movement}
use Rattle.writing.specs.Answers.{BalanceFits, RowFits, TextFits, IsMmo, PutOpening, PutClosing, PutMovement, PutComplement}

pub one_balance_fits : {k : Key} {d : ℕ} {a : ℤ} {r q : Bool} → BalanceFits k d a r → BalanceFits k d a q → r ≡ q
one_balance_fits g h = g.answer ∙ sym h.answer

pub one_row_fits : {k : Key} {m : Movement} {r q : Bool} → RowFits k m r → RowFits k m q → r ≡ q
one_row_fits g h = g.answer ∙ sym h.answer

pub one_text_fits : {t : List ℕ} {r q : Bool} → TextFits t r → TextFits t q → r ≡ q
one_text_fits g h = g.answer ∙ sym h.answer

pub one_is_mmo : {t : List ℕ} {r q : Bool} → IsMmo t r → IsMmo t q → r ≡ q
one_is_mmo g h = g.answer ∙ sym h.answer

pub one_put_opening : {k : Key} {d : ℕ} {a : ℤ} {out x y : List ℕ} → PutOpening k d a out x → PutOpening k d a out y → x ≡ y
one_put_opening g h = g.content ∙ sym h.content

pub one_put_closing : {k : Key} {d : ℕ} {a : ℤ} {out x y : List ℕ} → PutClosing k d a out x → PutClosing k d a out y → x ≡ y
one_put_closing g h = g.content ∙ sym h.content

pub one_put_movement : {k : Key} {m : Movement} {out x y : List ℕ} → PutMovement k m out x → PutMovement k m out y → x ≡ y
one_put_movement g h = g.content ∙ sym h.content

pub one_put_complement : {k : Key} {m : Movement} {t out x y : List ℕ} → PutComplement k m t out x → PutComplement k m t out y → x ≡ y
one_put_complement g h = g.content ∙ sym h.content
