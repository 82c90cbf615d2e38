-- WHAT WAS EXPECTED, of the numbers that the host gets: the paper's answer, whether they are asked before the delivery or after it.
use mathlib.Core.Path.{◌≡◌, refl, ◌∙◌}
use mathlib.Core.Logic.{◌↔◌}
use mathlib.Core.List.{List}
use Prim.Native.Nat.{ℕ}
use native.Mathlib.Omega.{arith}
use lib.IntN.{ℤ}
use Rattle.dates.proofs.Ordinals.{parts}
use Rattle.packing.specs.Packing.{refusal_in}
use Rattle.journal.specs.Answers.{paper_delivery}
use Rattle.journal.specs.Expected.{Expects}
use Rattle.journal.proofs.Expected.{expects, asked_after}
use Rattle.collector.specs.Packing.{paper_delivery_in}
use Rattle.collector.specs.Answers.{form, deliver_answer, DeliverNumber, ExpectedDate, ExpectedBalance}
use Rattle.collector.proofs.Packing.{deliver_paper}

module _ {j : List ℕ} {e : ℕ} {b : List ℕ} {n : ℕ} {j' : List ℕ} (g : DeliverNumber j e b n j') where
  -- asked before the delivery
  pub number_expects : {d : ℕ} {a : ℤ} → ExpectedDate j e b d → ExpectedBalance j e b a → Expects j (form e) b (paper_delivery_in n d a)
  number_expects x y = rw (deliver_paper g x y) (expects {j = j} {f = form e} {b = b} refl)

  -- AFTER IT the two are the same: a refused one left the journal as it was, and of a file that was accepted all is held
  pub date_after : {d : ℕ} → ExpectedDate j' e b d → ExpectedDate j e b d
  date_after x = record { answer = x.answer ∙ rw g.content (asked_after j (form e) b).0 }

  pub balance_after : {a : ℤ} → ExpectedBalance j' e b a → ExpectedBalance j e b a
  balance_after x = record { answer = x.answer ∙ rw g.content (asked_after j (form e) b).1 }

  -- so the number and the two, asked after the delivery, say the paper's answer together
  pub deliver_paper_after : {d : ℕ} {a : ℤ} → ExpectedDate j' e b d → ExpectedBalance j' e b a → paper_delivery_in n d a ≡ paper_delivery (deliver_answer j e b)
  deliver_paper_after x y = deliver_paper g (date_after x) (balance_after y)

  -- the date 0 means: no 22
  pub no_date : {d : ℕ} → ExpectedDate j e b d → (d ≡ 0) ↔ (refusal_in n ≡ 22 → ⊥)
  no_date {d} x = (
    (λ z h. let k = (parts d ((number_expects x own).a_day h)).low in omega arith),
    (λ h. ((number_expects x own).else_zero h).0),
  )
    where
      own : ExpectedBalance j e b (paper_delivery (deliver_answer j e b)).expected_balance
      own = record { answer = refl }
