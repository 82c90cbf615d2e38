-- No second answer meets a contract.
use mathlib.Core.Path.{◌≡◌, sym, ◌∙◌}
use mathlib.Core.Bool.{Bool}
use mathlib.Core.List.{List}
use Prim.Native.Nat.{ℕ}
use Rattle.framing.specs.Answers.{Cut, CutLength, WrongEnd, Numbers, RefusedAt}
use Rattle.framing.specs.declared.Form.{Form}
use Rattle.std.specs.Prelude.{Result}
use Rattle.framing.specs.declared.Frame.{Frame}
use Rattle.framing.specs.declared.refusals.Reason.{Reason}
use Rattle.framing.specs.declared.refusals.Refusal.{Refusal}

pub one_cut : {f : Form} {size most : ℕ} {b : List ℕ} {r q : Result Frame Refusal} → Cut f size most b r → Cut f size most b q → r ≡ q
one_cut g h = g.answer ∙ sym h.answer

pub one_cut_length : {f : Form} {size most n : ℕ} {r q : Result Frame Refusal} → CutLength f size most n r → CutLength f size most n q → r ≡ q
one_cut_length g h = g.answer ∙ sym h.answer

pub one_wrong_end : {f : Form} {after : List ℕ} {r q : Bool} → WrongEnd f after r → WrongEnd f after q → r ≡ q
one_wrong_end g h = g.answer ∙ sym h.answer

pub one_number : {u : Reason} {r q : ℕ} → Numbers u r → Numbers u q → r ≡ q
one_number g h = g.answer ∙ sym h.answer

pub one_refused_at : {u : Reason} {at : ℕ} {r q : Refusal} → RefusedAt u at r → RefusedAt u at q → r ≡ q
one_refused_at g h = g.answer ∙ sym h.answer
