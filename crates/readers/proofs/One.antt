-- No second answer meets a contract.
use mathlib.Core.Path.{◌≡◌, sym, ◌∙◌}
use mathlib.Core.List.{List}
use Prim.Native.Nat.{ℕ}
use Rattle.std.specs.Prelude.{Option, Result}
use Rattle.framing.specs.declared.Form.{Form}
use Rattle.framing.specs.declared.refusals.Refusal.{Refusal}
use Rattle.readers.specs.Answers.{PlacePart, StatementEnd, StatementPlace, StatementPart, MovementStep}
use Rattle.readers.specs.declared.Step.{Step}
use Rattle.readers.specs.declared.Place.{Place}

pub one_place_part : {p : Place} {b r q : List ℕ} → PlacePart p b r → PlacePart p b q → r ≡ q
one_place_part g h = g.answer ∙ sym h.answer

pub one_end : {f : Form} {b : List ℕ} {at r q : ℕ} → StatementEnd f b at r → StatementEnd f b at q → r ≡ q
one_end g h = g.answer ∙ sym h.answer

pub one_place : {f : Form} {b : List ℕ} {k : ℕ} {r q : Result Place Refusal} → StatementPlace f b k r → StatementPlace f b k q → r ≡ q
one_place g h = g.answer ∙ sym h.answer

pub one_part : {f : Form} {b : List ℕ} {k : ℕ} {r q : List ℕ} → StatementPart f b k r → StatementPart f b k q → r ≡ q
one_part g h = g.answer ∙ sym h.answer

pub one_step : {b : List ℕ} {f : Form} {at : ℕ} {r q : Option Step} → MovementStep b f at r → MovementStep b f at q → r ≡ q
one_step g h = g.answer ∙ sym h.answer
