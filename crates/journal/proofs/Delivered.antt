-- What a delivery leaves: a sound journal, whose list is the old one followed by the stored statements.
use mathlib.Core.Path.{◌≡◌, refl, sym, ap, ◌∙◌}
use mathlib.Core.Bool.{true}
use mathlib.Core.List.{List, [], ◌∷◌, ◌++◌}
use Prim.Native.Nat.{ℕ, suc, ◌+◌, ◌-◌, ◌*◌, ◌/◌, ◌<◌, ◌≤◌}
use native.Mathlib.Omega.{arith}
use lib.ListN.{length, get_or, replicate, length-replicate, replicate-append-replicate}
use Rattle.zones.specs.Pieces.{flat}
use Rattle.framing.specs.declared.Form.{Form}
use Rattle.framing.specs.Files.{All}
use Rattle.grammar.specs.Answer as G
use Rattle.grammar.specs.Answer.{Answer, accepted}
use Rattle.grammar.specs.Statements.{Statement}
use Rattle.grammar.specs.Files.{canonical, Reads, Writable, statements_of, check_of}
use Rattle.grammar.specs.Parts.{no_statement}
use Rattle.records.specs.July.{record_size, coding_of}
use Rattle.records.proofs.Theorems.{reads, part_reads, check_canonical, statements_canonical}
use Rattle.bodies.proofs.Single.{reads_writable}
use Rattle.entries.specs.Entries.{table_size}
use Rattle.journal_layout.specs.Layout.{most_lines, is_length, lines_of, entries_of, bodies_of, journal_of, Journal, opened_of}
use Rattle.journal_layout.proofs.Testing.{is_long}
use Rattle.journal_layout.proofs.Exact.{journal_length, journal_sound, journal_list}
use Rattle.journal.specs.declared.Rejection.{Rejection}
use Rattle.journal.specs.Delivery.{Outcome, delivered, refused, run, lines_in, outcome_by, outcome_of, content_by, content_of}
use Rattle.journal.specs.Arrivals.{arrivals}
use Rattle.journal.proofs.Runs.{Kept, kept, ran, kept_journal, kept_length}

-- each statement of an accepted file can be written
pub file_writable : {f : Form} {b : List ℕ} {ss : List Statement} → Reads (coding_of f) f b ss → All (Writable (coding_of f)) ss
file_writable {f} {b} {ss} r = each ss (λ i h. reads_writable (part_reads r i h))
  where
    each : (ts : List Statement) → ((i : ℕ) → i < length ts → Writable (coding_of f) (get_or ts i no_statement)) → All (Writable (coding_of f)) ts
    each [] p = tt
    each (t ∷ ts) p = (p 0 (omega arith), each ts (λ i h. p (suc i) (omega arith)))

-- EITHER ZERO: a file, and the same with each record as the writer writes it, get the same answer and leave the same journal, whatever is lent
pub outcome_canonical : (j : List ℕ) (f : Form) (b : List ℕ) → outcome_of j f (canonical (coding_of f) f b) ≡ outcome_of j f b
unfolding outcome_of
outcome_canonical j f b = rw (check_canonical f b, statements_canonical f b)

pub content_canonical : (j : List ℕ) (f : Form) (b : List ℕ) → content_of j f (canonical (coding_of f) f b) ≡ content_of j f b
unfolding content_of
content_canonical j f b = ap (content_by j) (outcome_canonical j f b)

-- a refused delivery leaves the journal as it was, sound or not
pub unchanged : (j : List ℕ) (f : Form) (b : List ℕ) {r : Rejection} → outcome_of j f b ≡ refused r → content_of j f b ≡ j
unfolding content_of
unchanged j f b e = ap (content_by j) e

-- the statements held after it, where H were held
abbrev pub held_then : List Statement → Outcome → List Statement
held_then H (delivered L x y) = L
held_then H (refused r) = H

-- of one length, of as many lines
same_lines : (i j : List ℕ) → length i ≡ length j → lines_in i ≡ lines_in j
same_lines i j e = ap (λ (n : ℕ). (n - table_size) / record_size) e

-- a journal's lines
pub lines_are : {j : List ℕ} {ss : List Statement} (g : Journal j ss) → lines_in j ≡ g.lines
lines_are g = let l = journal_length g in omega arith

-- what a delivery to a journal of H comes to
module _ {j : List ℕ} {H : List Statement} (g : Journal j H) (f : Form) (b : List ℕ) where
  -- its list, as the journal has it
  pub outcome_by_lem : outcome_of j f b ≡ outcome_by (check_of (coding_of f) f b) (run (lines_in j) H 0 0 0 (statements_of (coding_of f) f b))
  unfolding outcome_of
  outcome_by_lem = rw (journal_sound g, journal_list g)

  -- a delivery without a refusal
  pub record Stored (L : List Statement) (x y : ℕ) : Type 0 where
    pub read : Reads (coding_of f) f b (statements_of (coding_of f) f b)
    pub list : L ≡ H ++ arrivals H (statements_of (coding_of f) f b)
    pub stores : x ≡ length (arrivals H (statements_of (coding_of f) f b))
    pub all : x + y ≡ length (statements_of (coding_of f) f b)
    pub journal : Journal (content_of j f b) L
    pub long : length (content_of j f b) ≡ length j

  pub stored : {L : List Statement} {x y : ℕ} → outcome_of j f b ≡ delivered L x y → Stored L x y
  unfolding content_of
  stored {L} {x} {y} e = by (check_of (coding_of f) f b) refl (sym outcome_by_lem ∙ e)
    where
      by : (a : Answer) → check_of (coding_of f) f b ≡ a → outcome_by a (run (lines_in j) H 0 0 0 (statements_of (coding_of f) f b)) ≡ delivered L x y → Stored L x y
      by (accepted c) q o =
          let r = reads f b q in
          let k : Kept (lines_in j) H = rw (lines_are g) (kept g.kept) in
          let m = ran (lines_in j) H 0 0 0 (statements_of (coding_of f) f b) k (file_writable r) o in
          let l : lines_in j ≤ most_lines = rw (lines_are g) g.most in
          let s = m.stores in
          let a = m.all in
          record {
            read = r;
            list = m.list;
            stores = omega arith;
            all = omega arith;
            journal = rw e (kept_journal l m.kept);
            long = rw e (kept_length l m.kept ∙ sym (journal_length g ∙ rw (lines_are g)));
          }
      by (G.refused n k) q o = absurd (let z : ◌≡◌ {A = ℕ} 0 1 = cc in omega arith)

  -- a delivery keeps the journal's length, whatever it answers
  pub content_long : length (content_of j f b) ≡ length j
  content_long = by (outcome_of j f b) refl
    where
      by : (o : Outcome) → outcome_of j f b ≡ o → length (content_of j f b) ≡ length j
      by (delivered L x y) e = (stored e).long
      by (refused r) e = ap length (unchanged j f b e)

  -- and its lines
  pub lines_stay : lines_in (content_of j f b) ≡ lines_in j
  lines_stay = same_lines (content_of j f b) j content_long

  -- what is held then: it leaves a journal of that
  pub then_journal : Journal (content_of j f b) (held_then H (outcome_of j f b))
  then_journal = by (outcome_of j f b) refl
    where
      by : (o : Outcome) → outcome_of j f b ≡ o → Journal (content_of j f b) (held_then H o)
      by (delivered L x y) e = (stored e).journal
      by (refused r) e = rw (unchanged j f b e) g

-- opening keeps both too
pub opened_long : (j : List ℕ) → is_length (length j) ≡ true → length (opened_of j) ≡ length j
unfolding opened_of
opened_long j h = rw h (length-replicate {A = ℕ} (length j) 32)

pub opened_lines : (j : List ℕ) → is_length (length j) ≡ true → lines_in (opened_of j) ≡ lines_in j
opened_lines j h = same_lines (opened_of j) j (opened_long j h)

-- opening leaves a journal of no statement
pub opened : (j : List ℕ) → is_length (length j) ≡ true → Journal (opened_of j) []
unfolding opened_of journal_of entries_of bodies_of lines_of flat Rattle.journal_layout.specs.Chains.of_account
opened j h =
    let l = is_long (length j) h in
    let a = l.least in
    let b = l.most in
    let e = l.even in
    let n = lines_in j in
    let z : length j ≡ table_size + record_size * (n - 0) = omega arith in
    record {
      lines = n;
      most = omega arith;
      layout = rw h (ap (λ (m : ℕ). replicate m 32) z ∙ sym (replicate-append-replicate table_size (record_size * (n - 0)) 32));
      kept = record { few = omega arith; room = omega arith; alone = tt; distinct = tt; chained = λ k. tt };
    }
