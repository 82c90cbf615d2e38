-- No second answer meets a contract, and no second final content.
use mathlib.Core.Path.{◌≡◌, sym, ◌∙◌}
use mathlib.Core.Bool.{Bool}
use mathlib.Core.List.{List}
use Prim.Native.Nat.{ℕ}
use Rattle.framing.specs.declared.Form.{Form}
use Rattle.bodies.specs.Answers.{IsSingle, SameRecords, ClosingOf, PutBody}

pub one_is_single : {b : List ℕ} {r q : Bool} → IsSingle b r → IsSingle b q → r ≡ q
one_is_single g h = g.answer ∙ sym h.answer

pub one_same_records : {f g : Form} {a b : List ℕ} {r q : Bool} → SameRecords f a g b r → SameRecords f a g b q → r ≡ q
one_same_records g h = g.answer ∙ sym h.answer

pub one_closing_of : {f : Form} {b r q : List ℕ} → ClosingOf f b r → ClosingOf f b q → r ≡ q
one_closing_of g h = g.answer ∙ sym h.answer

pub one_put_body : {f : Form} {b x r q : List ℕ} → PutBody f b x r → PutBody f b x q → r ≡ q
one_put_body g h = g.content ∙ sym h.content
