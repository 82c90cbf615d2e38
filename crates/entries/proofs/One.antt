-- No second answer meets a contract, and no second final content.
use mathlib.Core.Path.{◌≡◌, sym, ◌∙◌}
use mathlib.Core.List.{List}
use Prim.Native.Nat.{ℕ}
use Rattle.std.specs.Prelude.{Option, Result}
use Rattle.entries.specs.Answers.{PutEntry, EntryAt, UsedAt, PutRow, BodyAt}
use Rattle.entries.specs.declared.Entry.{Entry}

pub one_put_entry : {first n : ℕ} {o c x r q : List ℕ} → PutEntry first n o c x r → PutEntry first n o c x q → r ≡ q
one_put_entry g h = g.content ∙ sym h.content

pub one_entry_at : {j : List ℕ} {e : ℕ} {r q : Result Entry Entry} → EntryAt j e r → EntryAt j e q → r ≡ q
one_entry_at g h = g.answer ∙ sym h.answer

pub one_used_at : {j : List ℕ} {e : ℕ} {r q : Option Entry} → UsedAt j e r → UsedAt j e q → r ≡ q
one_used_at g h = g.answer ∙ sym h.answer

pub one_put_row : {j : List ℕ} {e : ℕ} {x r q : List ℕ} → PutRow j e x r → PutRow j e x q → r ≡ q
one_put_row g h = g.content ∙ sym h.content

pub one_body_at : {j : List ℕ} {e : ℕ} {r q : List ℕ} → BodyAt j e r → BodyAt j e q → r ≡ q
one_body_at g h = g.answer ∙ sym h.answer
