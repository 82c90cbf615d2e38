-- No second answer meets a contract.
use mathlib.Core.Path.{◌≡◌, sym, ◌∙◌}
use mathlib.Core.List.{List}
use Prim.Native.Nat.{ℕ}
use Rattle.framing.specs.declared.Form.{Form}
use Rattle.contents.specs.Answers.{RecordAt, MovementsIn, HeadOf, MovementOf, ComplementOf, EarliestIn}
use Rattle.std.specs.Prelude.{Result}
use Rattle.framing.specs.declared.refusals.Refusal.{Refusal}
use Rattle.fields.specs.declared.Movement.{Movement}
use Rattle.contents.specs.declared.Summary.{Summary}

pub one_record_at : {b : List ℕ} {at : ℕ} {r q : List ℕ} → RecordAt b at r → RecordAt b at q → r ≡ q
one_record_at g h = g.answer ∙ sym h.answer

pub one_movements_in : {f : Form} {b : List ℕ} {r q : ℕ} → MovementsIn f b r → MovementsIn f b q → r ≡ q
one_movements_in g h = g.answer ∙ sym h.answer

pub one_head_of : {f : Form} {b : List ℕ} {k : ℕ} {r q : Result Summary Refusal} → HeadOf f b k r → HeadOf f b k q → r ≡ q
one_head_of g h = g.answer ∙ sym h.answer

pub one_movement_of : {f : Form} {b : List ℕ} {k i : ℕ} {r q : Result Movement Refusal} → MovementOf f b k i r → MovementOf f b k i q → r ≡ q
one_movement_of g h = g.answer ∙ sym h.answer

pub one_complement_of : {f : Form} {b : List ℕ} {k i j : ℕ} {r q : Result (List ℕ) Refusal} → ComplementOf f b k i j r → ComplementOf f b k i j q → r ≡ q
one_complement_of g h = g.answer ∙ sym h.answer

pub one_earliest : {f : Form} {b : List ℕ} {r q : Result ℕ Refusal} → EarliestIn f b r → EarliestIn f b q → r ≡ q
one_earliest g h = g.answer ∙ sym h.answer
