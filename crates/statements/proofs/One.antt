-- No second answer meets a contract.
use mathlib.Core.Path.{◌≡◌, sym, ◌∙◌}
use mathlib.Core.List.{List}
use Prim.Native.Nat.{ℕ}
use Rattle.framing.specs.declared.Form.{Form}
use Rattle.statements.specs.Answers.{Check}
use Rattle.std.specs.Prelude.{Result}
use Rattle.framing.specs.declared.refusals.Refusal.{Refusal}
use Rattle.statements.specs.declared.Counts.{Counts}

pub one_check : {f : Form} {b : List ℕ} {r q : Result Counts Refusal} → Check f b r → Check f b q → r ≡ q
one_check g h = g.answer ∙ sym h.answer
