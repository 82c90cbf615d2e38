-- DEMANDS 2 AND 3, AND ISOLATION, OF WHAT THE HOST CALLS: whatever numbers meet the contracts, unpacked from their bits. And the paper's record alone fixes an answer.
use mathlib.Core.Path.{◌≡◌, refl, sym, ◌∙◌}
use mathlib.Core.List.{List}
use Prim.Native.Nat.{ℕ}
use lib.IntN.{ℤ}
use Rattle.framing.specs.declared.Form.{Form}
use Rattle.framing.specs.Files.{line_end}
use Rattle.grammar.specs.Files.{check_of, Ruled}
use Rattle.grammar.specs.Demand.{Demand2}
use Rattle.records.specs.July.{coding_of}
use Rattle.std.specs.Prelude.{Result}
use Rattle.framing.specs.declared.refusals.Refusal.{Refusal}
use Rattle.statements.specs.declared.Counts.{Counts}
use Rattle.statements.specs.Answers.{checked_of, answer_of, paper_check, paper_of, checked_by, Check}
use Rattle.statements.proofs.Paper.{checks, paper_apart}
use Rattle.statements.proofs.Demand.{check_ruled, check_demand2}
use Rattle.journal.specs.declared.Delivery.{Delivery}
use Rattle.journal.specs.declared.Rejection.{Rejection}
use Rattle.journal.specs.Delivery.{outcome_of, content_of}
use Rattle.journal.specs.Series.{Deliver, Demand3}
use Rattle.journal.specs.Isolation.{Isolation}
use Rattle.journal.specs.Answers.{paper_delivery, paper_outcome, delivery_by, Delivers}
use Rattle.journal.specs.Answers.{answer_of as answer_for}
use Rattle.journal.proofs.Paper.{delivers, delivery_apart}
use Rattle.journal.proofs.Series.{deliver_demand3}
use Rattle.journal.proofs.Isolation.{deliver_isolation}
use Rattle.collector.specs.Packing.{paper_check_in, paper_delivery_in}
use Rattle.collector.specs.Answers.{form, CheckNumber, OpenNumber, DeliverNumber, ExpectedDate, ExpectedBalance}
use Rattle.collector.proofs.Packing.{check_unpacked, deliver_unpacked}

-- ---- the numbers

-- the rule of refusal
pub number_ruled : {e : ℕ} {b : List ℕ} {n : ℕ} → CheckNumber e b n → Ruled (coding_of (form e)) (form e) b (answer_of (checked_by (paper_check_in n)))
number_ruled g = check_ruled (checks (check_unpacked g))

pub number_demand2 : (check : ℕ → List ℕ → ℕ) → ((e : ℕ) (b : List ℕ) → CheckNumber e b (check e b))
    → Demand2 coding_of (λ f b. answer_of (checked_by (paper_check_in (check (line_end f) b))))
number_demand2 check c = check_demand2 (λ f b. checked_by (paper_check_in (check (line_end f) b))) (λ f b. checks (check_unpacked (c (line_end f) b)))

-- opening and delivering: each call's number, what was expected, and the journal that it leaves
module _ (opening : List ℕ → ℕ) (opened : List ℕ → List ℕ) (delivery : List ℕ → ℕ → List ℕ → ℕ) (delivered : List ℕ → ℕ → List ℕ → List ℕ) (date : List ℕ → ℕ → List ℕ → ℕ) (balance : List ℕ → ℕ → List ℕ → ℤ) where
  abbrev pub answered : List ℕ → Form → List ℕ → Result Delivery Rejection
  answered j f b = delivery_by (paper_delivery_in (delivery j (line_end f) b) (date j (line_end f) b) (balance j (line_end f) b))

  abbrev pub delivering : Deliver
  delivering j f b = record { answer = answered j f b; journal = delivered j (line_end f) b }

  module _ (o : (j : List ℕ) → OpenNumber j (opening j) (opened j)) (d : (j : List ℕ) (e : ℕ) (b : List ℕ) → DeliverNumber j e b (delivery j e b) (delivered j e b))
      (x : (j : List ℕ) (e : ℕ) (b : List ℕ) → ExpectedDate j e b (date j e b)) (y : (j : List ℕ) (e : ℕ) (b : List ℕ) → ExpectedBalance j e b (balance j e b)) where
    number_delivers : (j : List ℕ) (f : Form) (b : List ℕ) → Delivers j f b (answered j f b) (delivered j (line_end f) b)
    number_delivers j f b = delivers (deliver_unpacked (d j (line_end f) b) (x j (line_end f) b) (y j (line_end f) b)) (d j (line_end f) b).content

    pub number_demand3 : Demand3 opened delivering
    number_demand3 = deliver_demand3 opened delivering (λ j. (o j).content) number_delivers

    -- ONE ESTATE'S BANK TROUBLE IS NOBODY ELSE'S
    pub number_isolation : Isolation opened delivering
    number_isolation = deliver_isolation opened delivering (λ j. (o j).content) number_delivers

-- ---- the paper's record alone: an answer that has it meets the contract

pub check_recorded : {f : Form} {b : List ℕ} {r : Result Counts Refusal} → paper_check r ≡ paper_of (check_of (coding_of f) f b) → Check f b r
check_recorded {f} {b} {r} p =
    let a = checked_of (check_of (coding_of f) f b) in
    checks (paper_apart {r = r} {q = a} (p ∙ sym (checks {f = f} {b = b} {r = a} refl).paper))

pub deliver_recorded : {j : List ℕ} {f : Form} {b : List ℕ} {r : Result Delivery Rejection} {j' : List ℕ} → paper_delivery r ≡ paper_outcome (outcome_of j f b) → j' ≡ content_of j f b
    → Delivers j f b r j'
deliver_recorded {j} {f} {b} {r} p c =
    let a = answer_for (outcome_of j f b) in
    delivers (delivery_apart {r = r} {q = a} (p ∙ sym (delivers {j = j} {f = f} {b = b} {r = a} refl c).paper)) c
