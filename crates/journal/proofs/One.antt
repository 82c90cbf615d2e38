-- No second answer meets a contract, and no second final content.
use mathlib.Core.Path.{◌≡◌, sym, ◌∙◌}
use mathlib.Core.Bool.{Bool}
use mathlib.Core.List.{List}
use Prim.Native.Nat.{ℕ}
use Rattle.std.specs.Prelude.{Result}
use Rattle.framing.specs.declared.Form.{Form}
use Rattle.framing.specs.declared.refusals.Refusal.{Refusal}
use Rattle.journal.specs.declared.Delivery.{Delivery}
use Rattle.journal.specs.Answers.{Delivers, Foretells, NewestPlace, NewestPart, Holds, BodyOf, OfAccount}
use Rattle.journal.specs.declared.Found.{Found}
use Rattle.journal.specs.declared.Rejection.{Rejection}

pub one_deliver : {j : List ℕ} {f : Form} {b : List ℕ} {r q : Result Delivery Rejection} {x y : List ℕ} → Delivers j f b r x → Delivers j f b q y → (r ≡ q) × (x ≡ y)
one_deliver g h = (g.answer ∙ sym h.answer, g.content ∙ sym h.content)

pub one_foretold : {j : List ℕ} {f : Form} {b : List ℕ} {r q : Result Delivery Rejection} → Foretells j f b r → Foretells j f b q → r ≡ q
one_foretold g h = g.answer ∙ sym h.answer

pub one_newest_place : {j : List ℕ} {f : Form} {b x : List ℕ} {r q : Result Found Refusal} → NewestPlace j f b x r → NewestPlace j f b x q → r ≡ q
one_newest_place g h = g.answer ∙ sym h.answer

pub one_newest : {j : List ℕ} {f : Form} {b x r q : List ℕ} → NewestPart j f b x r → NewestPart j f b x q → r ≡ q
one_newest g h = g.answer ∙ sym h.answer

pub one_held : {j : List ℕ} {r q : Result ℕ Refusal} → Holds j r → Holds j q → r ≡ q
one_held g h = g.answer ∙ sym h.answer

pub one_body : {j : List ℕ} {e : ℕ} {r q : List ℕ} → BodyOf j e r → BodyOf j e q → r ≡ q
one_body g h = g.answer ∙ sym h.answer

pub one_of_account : {x b : List ℕ} {r q : Bool} → OfAccount x b r → OfAccount x b q → r ≡ q
one_of_account g h = g.answer ∙ sym h.answer
