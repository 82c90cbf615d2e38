-- No second answer meets a contract.
use mathlib.Core.Path.{◌≡◌, sym, ◌∙◌}
use mathlib.Core.Bool.{Bool}
use mathlib.Core.List.{List}
use Prim.Native.Nat.{ℕ}
use lib.IntN.{ℤ}
use Rattle.std.specs.Prelude.{Option}
use Rattle.amounts.specs.Answers.{Read, HasAmount, Absolute, Put}

pub one_read : {s : List ℕ} {r q : Option ℤ} → Read s r → Read s q → r ≡ q
one_read g h = g.answer ∙ sym h.answer

pub one_has_amount : {v : ℤ} {r q : Bool} → HasAmount v r → HasAmount v q → r ≡ q
one_has_amount g h = g.answer ∙ sym h.answer

pub one_absolute : {v : ℤ} {r q : ℕ} → Absolute v r → Absolute v q → r ≡ q
one_absolute g h = g.answer ∙ sym h.answer

pub one_put : {v : ℤ} {out x y : List ℕ} {r q : Bool} → Put v out r x → Put v out q y → (r ≡ q) × (x ≡ y)
one_put g h = (g.answer ∙ sym h.answer, g.content ∙ sym h.content)
