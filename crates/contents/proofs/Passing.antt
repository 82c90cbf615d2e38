-- The earliest old date of a file, as the code comes to it.
use mathlib.Core.Path.{◌≡◌, refl, sym, ap, ◌∙◌}
use mathlib.Core.List.{List, []}
use Prim.Native.Nat.{ℕ, suc, ◌+◌, ◌*◌, ◌<◌, ◌≤◌}
use native.Mathlib.Nat.{zero-mul}
use native.Mathlib.Omega.{arith}
use lib.ListN.{length, drop, get_or}
use lib.Seq.{drop-cons, drop-length}
use Rattle.framing.specs.declared.Form.{Form}
use Rattle.framing.specs.Files.{width_of}
use Rattle.grammar.specs.Statements.{Statement}
use Rattle.grammar.specs.Files.{Reads, statements_of, check_of}
use Rattle.grammar.specs.Parts.{records_before, no_statement}
use Rattle.records.specs.July.{record_size, coding_of}
use Rattle.records.specs.declared.Look.{Look}
use Rattle.records.specs.Looks.{look_of}
use Rattle.records.proofs.Theorems.{reads}
use Rattle.std.specs.Prelude.{Ok, Err}
use Rattle.framing.specs.Refusals.{refusal_of}
use Rattle.framing.specs.declared.refusals.Refusal.{Refusal}
use Rattle.grammar.specs.Answer.{Answer, accepted, refused}
use Rattle.statements.specs.declared.Counts.{Counts}
use Rattle.statements.specs.Answers.{checked_of}
use Rattle.readers.specs.Places.{end_after}
use Rattle.readers.proofs.Cursor.{cursor}
use Rattle.readers.proofs.Placed.{accepted_of}
use Rattle.readers.proofs.Turns.{one_more, last_turn}
use Rattle.contents.specs.Heads.{record_at_of}
use Rattle.contents.specs.Earliest.{earlier_of, earliest_from, earliest_of, beginning_by, beginning_of}
use Rattle.contents.proofs.Heading.{old_date_at}

-- so many statements are behind, and the day that is kept with the others gives the whole
pub record Reached (f : Form) (ss : List Statement) (day at : ℕ) : Type 0 where
  pub behind : ℕ
  pub upto : behind ≤ length ss
  pub place : at ≡ records_before behind ss * width_of record_size f
  pub rest : earliest_from day (drop behind ss) ≡ earliest_of ss

-- of any file: where it is accepted
abbrev pub Passing : Form → List ℕ → (day at : ℕ) → Type 0
Passing f b day at = (ss : List Statement) → Reads (coding_of f) f b ss → Reached f ss day at

module _ (f : Form) (b : List ℕ) where
  pub begins : Passing f b 0 0
  unfolding records_before
  begins ss r = record { behind = 0; upto = omega arith; place = sym (zero-mul (width_of record_size f)); rest = refl }

  pub passes : {day at e d : ℕ} {x : Look} → Passing f b day at → at < length b → x ≡ look_of (record_at_of b at) → d ≡ earlier_of day x.day → e ≡ end_after f b at
      → Passing f b d e
  unfolding earliest_from
  passes {day} {at} {e} {d} p l u v w ss r =
      let g = p ss r in
      let i = g.behind in
      let h : i < length ss = one_more r g.upto g.place l in
      let k : d ≡ earlier_of day (get_or ss i no_statement).old_date = v ∙ ap (earlier_of day) (ap (λ (y : Look). y.day) u ∙ ap (λ (n : ℕ). (look_of (record_at_of b n)).day) g.place ∙ old_date_at r i h) in
      let z : suc i ≡ i + 1 = omega arith in
      record {
        behind = i + 1;
        upto = omega arith;
        place = w ∙ ap (end_after f b) g.place ∙ cursor r i h;
        rest = rw (k, ← z) (rw (drop-cons ss i no_statement h) at g.rest);
      }

  pub ends : {day at : ℕ} → Passing f b day at → length b ≤ at → (ss : List Statement) → Reads (coding_of f) f b ss → day ≡ earliest_of ss
  unfolding earliest_from
  ends {day} p l ss r =
      let g = p ss r in
      let q : drop g.behind ss ≡ [] = ap (λ (m : ℕ). drop m ss) (last_turn r g.upto g.place l) ∙ drop-length ss in
      sym (ap (earliest_from day) q) ∙ g.rest

-- the whole answer
pub begun : (f : Form) (b : List ℕ) {n : Counts} {d : ℕ} → Ok n ≡ checked_of (check_of (coding_of f) f b) → ((ss : List Statement) → Reads (coding_of f) f b ss → d ≡ earliest_of ss)
    → Ok d ≡ beginning_of f b
unfolding beginning_of
begun f b e g =
    let y = accepted_of (check_of (coding_of f) f b) e in
    ap Ok (g (statements_of (coding_of f) f b) (reads f b y)) ∙ sym (rw y)

pub not_begun : (f : Form) (b : List ℕ) {e : Refusal} → Err e ≡ checked_of (check_of (coding_of f) f b) → Err e ≡ beginning_of f b
unfolding beginning_of
not_begun f b {e} = by (check_of (coding_of f) f b)
  where
    by : (a : Answer) → Err e ≡ checked_of a → Err e ≡ beginning_by a (statements_of (coding_of f) f b)
    by (accepted x) p = absurd (let z : ◌≡◌ {A = ℕ} 0 1 = cc in omega arith)
    by (refused n r) p = let q : e ≡ refusal_of n r = cc in ap Err q
