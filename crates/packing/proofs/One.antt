-- No second answer meets a contract.
use mathlib.Core.Path.{◌≡◌, sym, ◌∙◌}
use Prim.Native.Nat.{ℕ}
use Rattle.framing.specs.declared.refusals.Refusal.{Refusal}
use Rattle.packing.specs.Answers.{Answered, Refuses, RefusalNumber}

pub one_answered : {a b c r q : ℕ} → Answered a b c r → Answered a b c q → r ≡ q
one_answered g h = g.answer ∙ sym h.answer

pub one_refused : {number at r q : ℕ} → Refuses number at r → Refuses number at q → r ≡ q
one_refused g h = g.answer ∙ sym h.answer

pub one_refusal : {e : Refusal} {r q : ℕ} → RefusalNumber e r → RefusalNumber e q → r ≡ q
one_refusal g h = g.answer ∙ sym h.answer
