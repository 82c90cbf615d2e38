-- No second answer meets a contract.
use mathlib.Core.Path.{◌≡◌, sym, ◌∙◌}
use mathlib.Core.Bool.{Bool}
use mathlib.Core.List.{List}
use Prim.Native.Nat.{ℕ}
use Rattle.std.specs.Prelude.{Option}
use Rattle.dates.specs.Answers.{Read, IsDay, Put, Ordinal, OfOrdinal}

pub one_read : {s : List ℕ} {r q : Option ℕ} → Read s r → Read s q → r ≡ q
one_read g h = g.answer ∙ sym h.answer

pub one_is_day : {k : ℕ} {r q : Bool} → IsDay k r → IsDay k q → r ≡ q
one_is_day g h = g.answer ∙ sym h.answer

pub one_put : {k : ℕ} {out x y : List ℕ} {r q : Bool} → Put k out r x → Put k out q y → (r ≡ q) × (x ≡ y)
one_put g h = (g.answer ∙ sym h.answer, g.content ∙ sym h.content)

pub one_ordinal : {k : ℕ} {r q : Option ℕ} → Ordinal k r → Ordinal k q → r ≡ q
one_ordinal g h = g.answer ∙ sym h.answer

pub one_of_ordinal : {n : ℕ} {r q : Option ℕ} → OfOrdinal n r → OfOrdinal n q → r ≡ q
one_of_ordinal g h = g.answer ∙ sym h.answer
