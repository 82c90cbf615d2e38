-- No second number meets a contract, and no second final content.
use mathlib.Core.Path.{◌≡◌, sym, ◌∙◌}
use mathlib.Core.List.{List}
use Prim.Native.Nat.{ℕ}
use lib.IntN.{ℤ}
use Rattle.collector.specs.Answers.{CheckNumber, OpenNumber, DeliverNumber, ExpectedDate, ExpectedBalance, EntryNumber, UsedNumber, ListedNumber, LengthNumber, EarliestNumber}

pub one_check : {e : ℕ} {b : List ℕ} {r q : ℕ} → CheckNumber e b r → CheckNumber e b q → r ≡ q
one_check g h = g.answer ∙ sym h.answer

pub one_open : {j : List ℕ} {r q : ℕ} {x y : List ℕ} → OpenNumber j r x → OpenNumber j q y → (r ≡ q) × (x ≡ y)
one_open g h = (g.answer ∙ sym h.answer, g.content ∙ sym h.content)

pub one_deliver : {j : List ℕ} {e : ℕ} {b : List ℕ} {r q : ℕ} {x y : List ℕ} → DeliverNumber j e b r x → DeliverNumber j e b q y → (r ≡ q) × (x ≡ y)
one_deliver g h = (g.answer ∙ sym h.answer, g.content ∙ sym h.content)

pub one_expected_date : {j : List ℕ} {e : ℕ} {b : List ℕ} {r q : ℕ} → ExpectedDate j e b r → ExpectedDate j e b q → r ≡ q
one_expected_date g h = g.answer ∙ sym h.answer

pub one_expected_balance : {j : List ℕ} {e : ℕ} {b : List ℕ} {r q : ℤ} → ExpectedBalance j e b r → ExpectedBalance j e b q → r ≡ q
one_expected_balance g h = g.answer ∙ sym h.answer

pub one_entry : {j : List ℕ} {e : ℕ} {r q : ℕ} → EntryNumber j e r → EntryNumber j e q → r ≡ q
one_entry g h = g.answer ∙ sym h.answer

pub one_used : {j : List ℕ} {r q : ℕ} → UsedNumber j r → UsedNumber j q → r ≡ q
one_used g h = g.answer ∙ sym h.answer

pub one_listed : {j : List ℕ} {e : ℕ} {w : List ℕ} {r q : ℕ} {x y : List ℕ} → ListedNumber j e w r x → ListedNumber j e w q y → (r ≡ q) × (x ≡ y)
one_listed g h = (g.answer ∙ sym h.answer, g.content ∙ sym h.content)

pub one_length : {e n r q : ℕ} → LengthNumber e n r → LengthNumber e n q → r ≡ q
one_length g h = g.answer ∙ sym h.answer

pub one_earliest : {e : ℕ} {b : List ℕ} {r q : ℕ} → EarliestNumber e b r → EarliestNumber e b q → r ≡ q
one_earliest g h = g.answer ∙ sym h.answer
