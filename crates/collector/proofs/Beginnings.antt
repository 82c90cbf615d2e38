-- THE CHECK COMES FIRST: a file's beginning is refused exactly where the check refuses the file, with the check's own number; else the number has its day.
use mathlib.Core.Path.{◌≡◌, refl, ap, ◌∙◌}
use mathlib.Core.Logic.{◌↔◌}
use mathlib.Core.List.{List}
use Prim.Native.Nat.{ℕ, ◌≤◌}
use native.Mathlib.Omega.{arith}
use Rattle.dates.specs.Ordinals.{last_day}
use Rattle.packing.specs.Packing.{kind_in}
use Rattle.packing.proofs.Packing.{kind_back}
use Rattle.grammar.specs.Answer.{Answer, accepted, refused}
use Rattle.grammar.specs.Statements.{Statement}
use Rattle.grammar.specs.Files.{Reads, check_of, statements_of}
use Rattle.records.specs.July.{coding_of}
use Rattle.contents.specs.Earliest.{earliest_of, beginning_by, beginning_of}
use Rattle.std.specs.Prelude.{Err}
use Rattle.framing.specs.Refusals.{reason_number, refusal_of}
use Rattle.framing.specs.declared.refusals.Refusal.{Refusal}
use Rattle.framing.proofs.Reasons.{reason_back}
use Rattle.statements.proofs.Listed.{AllListed, check_listed}
use Rattle.contents.proofs.Begun.{earliest_told}
use Rattle.contents.specs.Answers.{paper_beginning}
use Rattle.collector.specs.Packing.{packed_beginning, packed_day}
use Rattle.collector.specs.Answers.{form, earliest_answer, CheckNumber, EarliestNumber}
use Rattle.collector.proofs.Bounds.{check_bounds, earliest_bounds}
use Rattle.collector.proofs.Packing.{counted_fits, day_fits}

module _ (e : ℕ) (b : List ℕ) where
  pub earliest_refused : {x : Refusal} → (earliest_answer e b ≡ Err x) ↔ (check_of (coding_of (form e)) (form e) b ≡ refused (reason_number x.reason) x.«record»)
  unfolding beginning_of
  earliest_refused {x} = (λ p. by (check_of (coding_of (form e)) (form e) b) (check_listed (form e) b) p, λ p. rw (p, reason_back x.reason))
    where
      by : (a : Answer) → AllListed a → beginning_by a (statements_of (coding_of (form e)) (form e) b) ≡ Err x → a ≡ refused (reason_number x.reason) x.«record»
      by (accepted c) l p = absurd (let z : ◌≡◌ {A = ℕ} 0 1 = cc in omega arith)
      by (refused m r) l p = let z : x ≡ refusal_of m r = cc in rw (z, l)

  -- as numbers: of kind 1, what answers either is the answer of both
  pub earliest_check : {n : ℕ} → kind_in n ≡ 1 → EarliestNumber e b n ↔ CheckNumber e b n
  unfolding beginning_of
  earliest_check {n} k = by (check_of (coding_of (form e)) (form e) b) refl
    where
      by : (a : Answer) → check_of (coding_of (form e)) (form e) b ≡ a → EarliestNumber e b n ↔ CheckNumber e b n
      by (refused m r) p = (λ g. record { answer = g.answer ∙ rw p }, λ g. record { answer = g.answer ∙ rw p })
      by (accepted c) p = (
        λ g. absurd
            (let f = day_fits (rw p at (earliest_bounds (form e) b)) in
            let z : kind_in n ≡ 0 = ap kind_in (g.answer ∙ rw p) ∙ kind_back f in
            omega arith),
        λ g. absurd
            (let f = counted_fits (rw p at (check_bounds (form e) b)) in
            let z : kind_in n ≡ 0 = ap kind_in (g.answer ∙ rw p) ∙ kind_back f in
            omega arith),
      )

  -- else the day is the earliest old date of the file's statements
  pub earliest_number : {n : ℕ} {ss : List Statement} → Reads (coding_of (form e)) (form e) b ss → EarliestNumber e b n → (kind_in n ≡ 0) × (packed_day n ≡ earliest_of ss)
  earliest_number {n} {ss} r g =
      let k : earliest_of ss ≤ last_day = rw (earliest_told r) at (earliest_bounds (form e) b) in
      let z : n ≡ earliest_of ss = g.answer ∙ ap (λ a. packed_beginning (paper_beginning a)) (earliest_told r) ∙ omega arith in
      (omega arith, omega arith)
