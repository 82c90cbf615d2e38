-- THE LENGTH COMES FIRST: what is refused by a file's length is refused so by the check, whatever the bytes, and nothing else is refused with 1 to 3.
use mathlib.Core.Path.{◌≡◌, refl, sym, ap, ◌∙◌}
use mathlib.Core.Bool.{Bool, true, false}
use mathlib.Core.List.{List}
use Prim.Native.Nat.{ℕ, ◌≤◌}
use native.Mathlib.Omega.{arith}
use lib.ListN.{length}
use Rattle.zones.specs.Choice.{pick}
use Rattle.packing.specs.Packing.{kind_in}
use Rattle.packing.proofs.Packing.{kind_back}
use Rattle.std.specs.Prelude.{Result, Ok, Err}
use Rattle.framing.specs.declared.Frame.{Frame}
use Rattle.framing.specs.declared.refusals.Refusal.{Refusal}
use Rattle.framing.specs.declared.refusals.Reason.TheVariants.{UnknownLineEnd, UnevenLength, TooManyRecords}
use Rattle.framing.specs.Refusals.{reason_number, refusal_by}
use Rattle.framing.specs.Files.{unknown_end, uneven, too_many}
use Rattle.framing.specs.Frames.{frame_of, frame_by}
use Rattle.framing.specs.Answers.{paper_frame}
use Rattle.framing.proofs.Framing.{frame_length}
use Rattle.grammar.specs.Answer.{Answer, refused, first, cut, whole}
use Rattle.grammar.specs.Files.{check_of, Ruled, line, multiple, many, records}
use Rattle.grammar.proofs.Tests.{clash}
use Rattle.records.specs.July.{record_size, most_in_file, coding_of}
use Rattle.records.proofs.Theorems.{ruled}
use Rattle.statements.specs.Answers.{checked_of, paper_check}
use Rattle.statements.proofs.Framed.{framed}
use Rattle.statements.proofs.Numbers.{applied}
use Rattle.collector.specs.Packing.{packed_check, packed_length}
use Rattle.collector.specs.Answers.{form, length_answer, CheckNumber, LengthNumber}
use Rattle.collector.proofs.Bounds.{length_bounds}
use Rattle.collector.proofs.Packing.{records_fits}

module _ (e : ℕ) (b : List ℕ) where
  as_file : {r : Result Frame Refusal} → r ≡ length_answer e (length b) → r ≡ frame_of (form e) record_size most_in_file b
  as_file p = p ∙ frame_length (form e) record_size most_in_file b

  pub length_first : {x : Refusal} → Err x ≡ length_answer e (length b) → check_of (coding_of (form e)) (form e) b ≡ refused (reason_number x.reason) 0
  unfolding frame_by check_of
  length_first {x} p = by _ _ (unknown_end (form e)) (uneven record_size (form e) b) (too_many record_size most_in_file (form e) b) p
    where
      by : (c : Frame) (a : Answer) (t u v : Bool)
          → Err x ≡ pick t (Err (refusal_by UnknownLineEnd 0)) (pick u (Err (refusal_by UnevenLength 0)) (pick v (Err (refusal_by TooManyRecords 0)) (Ok c)))
          → pick t (refused 1 0) (pick u (refused 2 0) (pick v (refused 3 0) a)) ≡ refused (reason_number x.reason) 0
      by c a true u v q = let z : x ≡ refusal_by UnknownLineEnd 0 = cc in rw z
      by c a false true v q = let z : x ≡ refusal_by UnevenLength 0 = cc in rw z
      by c a false false true q = let z : x ≡ refusal_by TooManyRecords 0 = cc in rw z
      by c a false false false q = absurd (let i : ◌≡◌ {A = ℕ} 0 1 = cc in omega arith)

  -- where the length has a number of records, none of 1 to 3 applies
  record Passed : Type 0 where
    known : unknown_end (form e) ≡ false
    even : uneven record_size (form e) b ≡ false
    few : too_many record_size most_in_file (form e) b ≡ false

  passed : {c : Frame} → Ok c ≡ length_answer e (length b) → Passed
  unfolding frame_by
  passed {c} p = by _ (unknown_end (form e)) refl (uneven record_size (form e) b) refl (too_many record_size most_in_file (form e) b) refl p
    where
      by : (d : Frame) (x : Bool) → unknown_end (form e) ≡ x → (y : Bool) → uneven record_size (form e) b ≡ y
          → (z : Bool) → too_many record_size most_in_file (form e) b ≡ z
          → Ok c ≡ pick x (Err (refusal_by UnknownLineEnd 0)) (pick y (Err (refusal_by UnevenLength 0)) (pick z (Err (refusal_by TooManyRecords 0)) (Ok d))) → Passed
      by d true k y o z f q = absurd (let i : ◌≡◌ {A = ℕ} 0 1 = cc in omega arith)
      by d false k true o z f q = absurd (let i : ◌≡◌ {A = ℕ} 0 1 = cc in omega arith)
      by d false k false o true f q = absurd (let i : ◌≡◌ {A = ℕ} 0 1 = cc in omega arith)
      by d false k false o false f q = record { known = k; even = o; few = f }

  pub length_passed : {c : Frame} {k r : ℕ} → Ok c ≡ length_answer e (length b) → check_of (coding_of (form e)) (form e) b ≡ refused k r → 4 ≤ k
  length_passed {k = k} {r = r} p q = by (ruled (form e) b) q
    where
      g : Passed
      g = passed p

      by : {a : Answer} → Ruled (coding_of (form e)) (form e) b a → a ≡ refused k r → 4 ≤ k
      by (line x o) h = absurd (clash x g.known)
      by (multiple x y o) h = absurd (clash y g.even)
      by (many x y z o) h = absurd (clash z g.few)
      by (records x y z (first m i f o)) h = let u = sym o ∙ h in let v : m ≡ k = cc in let w = (applied (form e) b f.here).behind in omega arith
      by (records x y z (cut n i o)) h = let u = sym o ∙ h in let v : ◌≡◌ {A = ℕ} 14 k = cc in omega arith
      by (records x y z (whole n i o)) h = absurd (let u = sym o ∙ h in let v : ◌≡◌ {A = ℕ} 0 1 = cc in omega arith)

  -- as numbers: a refusal by the length is the check's own number
  pub length_number : {n : ℕ} → LengthNumber e (length b) n → kind_in n ≡ 1 → CheckNumber e b n
  length_number {n} g k = by (length_answer e (length b)) refl
    where
      by : (r : Result Frame Refusal) → r ≡ length_answer e (length b) → CheckNumber e b n
      by (Ok c) p =
          absurd (let f = records_fits (rw (← p) at (length_bounds e (length b))) in
          let z : kind_in n ≡ 0 = ap kind_in (g.answer ∙ ap (λ a. packed_length (paper_frame a)) (sym p)) ∙ kind_back f in
          omega arith)
      by (Err x) p =
          let q : Err x ≡ checked_of (check_of (coding_of (form e)) (form e) b) = framed (form e) b (Err x) (as_file p) in
          record { answer = g.answer ∙ ap (λ a. packed_length (paper_frame a)) (sym p) ∙ ap (λ a. packed_check (paper_check a)) q }
