-- No second answer and no second content meet a contract.
use mathlib.Core.Path.{◌≡◌, sym, ◌∙◌}
use mathlib.Core.List.{List}
use Prim.Native.Nat.{ℕ}
use Rattle.std.specs.Prelude.{Result}
use Rattle.framing.specs.declared.Form.{Form}
use Rattle.framing.specs.declared.refusals.Refusal.{Refusal}
use Rattle.fields.specs.declared.Movement.{Movement}
use Rattle.tables.specs.Answers.{Movements}

pub one_movements : {f : Form} {b : List ℕ} {k : ℕ} {t u v : List Movement} {r q : Result ℕ Refusal} → Movements f b k t r u → Movements f b k t q v → (r ≡ q) × (u ≡ v)
one_movements g h = (g.answer ∙ sym h.answer, g.content ∙ sym h.content)
