-- No second answer meets a contract, and no second final content.
use mathlib.Core.Path.{◌≡◌, sym, ◌∙◌}
use mathlib.Core.List.{List}
use Prim.Native.Nat.{ℕ}
use lib.IntN.{ℤ}
use Rattle.std.specs.Prelude.{Result}
use Rattle.framing.specs.declared.refusals.Refusal.{Refusal}
use Rattle.cash.specs.Answers.{Positions, PositionNumber, Balance, DayAfter}

pub one_position : {j x : List ℕ} {first last : ℕ} {t : List ℤ} {r q : Result ℕ Refusal} {u v : List ℤ} → Positions j x first last t r u → Positions j x first last t q v → (r ≡ q) × (u ≡ v)
one_position g h = (g.answer ∙ sym h.answer, g.content ∙ sym h.content)

pub one_position_number : {j x : List ℕ} {first last : ℕ} {t : List ℤ} {r q : ℕ} {u v : List ℤ} → PositionNumber j x first last t r u → PositionNumber j x first last t q v
    → (r ≡ q) × (u ≡ v)
one_position_number g h = (g.answer ∙ sym h.answer, g.content ∙ sym h.content)

pub one_balance : {j : List ℕ} {e : ℕ} {r q : ℤ} → Balance j e r → Balance j e q → r ≡ q
one_balance g h = g.answer ∙ sym h.answer

pub one_day_after : {day after r q : ℕ} → DayAfter day after r → DayAfter day after q → r ≡ q
one_day_after g h = g.answer ∙ sym h.answer
