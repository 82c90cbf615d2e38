-- For each contract, no second answer meets it.
use mathlib.Core.Path.{◌≡◌, sym, ◌∙◌}
use mathlib.Core.List.{List}
use Prim.Native.Nat.{ℕ}
use Rattle.std.specs.Prelude.{Result}
use Rattle.framing.specs.declared.refusals.Refusal.{Refusal}
use Rattle.fields.specs.declared.Movement.{Movement}
use Rattle.contents.specs.declared.Head.{Head}
use Rattle.writer.specs.Answers.{WriteStatement}

pub one_write_statement : {h : Head} {rows : List Movement} {cs out : List ℕ} {r q : Result ℕ Refusal} {x y : List ℕ} → WriteStatement h rows cs out r x → WriteStatement h rows cs out q y
    → (r ≡ q) × (x ≡ y)
one_write_statement a b = (a.answer ∙ sym b.answer, a.content ∙ sym b.content)
