-- No second answer meets a contract.
use mathlib.Core.Path.{◌≡◌, sym, ◌∙◌}
use mathlib.Core.List.{List}
use Prim.Native.Nat.{ℕ}
use Rattle.grammar.specs.declared.Key.{Key}
use Rattle.fields.specs.Answers.{KeyAt, RowAt, ValuedAt}
use Rattle.fields.specs.declared.Movement.{Movement}
use Rattle.fields.specs.declared.Valued.{Valued}

pub one_key_at : {b : List ℕ} {r q : Key} → KeyAt b r → KeyAt b q → r ≡ q
one_key_at g h = g.answer ∙ sym h.answer

pub one_row_at : {b : List ℕ} {n : ℕ} {r q : Movement} → RowAt b n r → RowAt b n q → r ≡ q
one_row_at g h = g.answer ∙ sym h.answer

pub one_valued_at : {b : List ℕ} {r q : Valued} → ValuedAt b r → ValuedAt b q → r ≡ q
one_valued_at g h = g.answer ∙ sym h.answer
