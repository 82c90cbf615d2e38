-- A body that stands alone: the statement that it is the body of.
use mathlib.Core.Path.{◌≡◌, refl, sym, ap, ap₂, ◌∙◌}
use mathlib.Core.Bool.{Bool, true, false, ◌&&◌}
use mathlib.Core.List.{List, [], ◌∷◌, map, append-nil}
use Prim.Native.Nat.{ℕ, ◌*◌, ◌≤◌}
use native.Mathlib.Omega.{arith}
use lib.Dec.{eqb}
use lib.ListN.{length, length-map, get_or}
use borrow.Author.Tests.{eqb-true}
use Rattle.zones.specs.Pieces.{flat}
use Rattle.zones.proofs.Bools.{and_left, and_right, both, conj}
use Rattle.framing.specs.declared.Form.{Form}
use Rattle.framing.specs.Files.{end_of, width_of, piece_of, file_of, plain}
use Rattle.framing.proofs.Cuts.{length_flat}
use Rattle.grammar.specs.Answer.{Answer, accepted, refused}
use Rattle.grammar.specs.Record.{Rec}
use Rattle.grammar.specs.Statements.{Statement, records_of}
use Rattle.grammar.specs.Files.{pieces, check_of, layout_of, Gives, Reads, statements_of, Writable}
use Rattle.grammar.specs.Parts.{size_of, no_statement}
use Rattle.grammar.proofs.Parts.{length_one}
use Rattle.grammar.proofs.Seam.{pieces_for, wide_pieces}
use Rattle.grammar.proofs.Exact.{gives_reads}
use Rattle.grammar.proofs.Trips.{one_records}
use Rattle.records.specs.July.{record_size, most_in_statement, july, encode_record, no_debit_zero, coding_of, edition_of}
use Rattle.records.proofs.Lawful.{lawful}
use Rattle.records.proofs.Theorems.{unique, counts, reads, own_file, writable}
use Rattle.std.specs.Prelude.{Ok, Err}
use Rattle.framing.specs.declared.refusals.Refusal.{Refusal}
use Rattle.statements.specs.declared.Counts.{Counts}
use Rattle.statements.specs.Answers.{checked_of}
use Rattle.bodies.specs.Bodies.{body_of, counts_one, single, statement_of}

-- at the code's returns
counted : (a : Answer) {n : Counts} → Ok n ≡ checked_of a → eqb n.statements 1 ≡ counts_one a
counted (accepted x) e = cc
counted (refused n r) e = absurd (let z : ◌≡◌ {A = ℕ} 0 1 = cc in omega arith)

not_counted : (a : Answer) {e : Refusal} → Err e ≡ checked_of a → counts_one a ≡ false
not_counted (accepted x) e = absurd (let z : ◌≡◌ {A = ℕ} 0 1 = cc in omega arith)
not_counted (refused n r) e = refl

module _ (b : List ℕ) where
  pub judged : {n : Counts} {t : Bool} → Ok n ≡ checked_of (check_of (coding_of plain) plain b) → t ≡ no_debit_zero (pieces (coding_of plain) plain b) → (eqb n.statements 1 && t) ≡ single b
  unfolding single
  judged e d = conj (counted (check_of (coding_of plain) plain b) e) d

  pub refused_alone : {e : Refusal} → Err e ≡ checked_of (check_of (coding_of plain) plain b) → false ≡ single b
  unfolding single
  refused_alone e = sym (rw (not_counted (check_of (coding_of plain) plain b) e))

-- what passes the test is a file of one statement, and this is it
one_of : (ss : List Statement) → length ss ≡ 1 → ss ≡ get_or ss 0 no_statement ∷ []
one_of [] e = absurd (omega arith)
one_of (s ∷ []) e = refl
one_of (s ∷ t ∷ ss) e = absurd (omega arith)

pub single_reads : (b : List ℕ) → single b ≡ true → Reads (coding_of plain) plain b (statement_of b ∷ [])
unfolding single statement_of
single_reads b h = by (check_of (coding_of plain) plain b) refl (and_left (counts_one (check_of (coding_of plain) plain b)) _ h)
  where
    by : (a : Answer) → check_of (coding_of plain) plain b ≡ a → counts_one a ≡ true → Reads (coding_of plain) plain b (get_or (statements_of (coding_of plain) plain b) 0 no_statement ∷ [])
    by (accepted c) e g =
        let r = reads plain b e in
        let n : length (statements_of (coding_of plain) plain b) ≡ 1 =
        let q = sym e ∙ counts r in
        let z : c.statements ≡ length (statements_of (coding_of plain) plain b) = cc in
        sym z ∙ eqb-true c.statements 1 g in
        rw (← one_of (statements_of (coding_of plain) plain b) n) r
    by (refused n k) e g = absurd (let z : ◌≡◌ {A = ℕ} 0 1 = cc in omega arith)

pub reads_statement : {b : List ℕ} {s : Statement} → Reads (coding_of plain) plain b (s ∷ []) → statement_of b ≡ s
unfolding statement_of
reads_statement {b} r = let q = unique (reads plain b (counts r)) r in rw q

-- a statement that some file reads as can be written
pub reads_writable : {f : Form} {b : List ℕ} {s : Statement} → Reads (coding_of f) f b (s ∷ []) → Writable (coding_of f) s
reads_writable {f} {b} {s} r = (writable s).0 (f, (b, r))

-- the body of a statement is the file without line ends that it gives
unended : (rs : List Rec) → map encode_record rs ≡ pieces_for (coding_of plain) plain rs
unfolding end_of
unended [] = refl
unended (r ∷ rs) = ap₂ ◌∷◌ (sym (append-nil (encode_record r))) (unended rs)

pub body_layout : (s : Statement) → body_of s ≡ layout_of (coding_of plain) plain (s ∷ [])
unfolding body_of layout_of file_of
body_layout s = ap flat (unended (records_of (edition_of plain) s) ∙ ap (pieces_for (coding_of plain) plain) (sym (one_records (edition_of plain) s)))

-- a body that stands alone is that of its statement
pub single_body : (b : List ℕ) → single b ≡ true → b ≡ body_of (statement_of b)
unfolding single
single_body b h =
    sym (body_layout (statement_of b) ∙ ((single_reads b h).layout ∙ (own_file plain b).1 (and_right (counts_one (check_of (coding_of plain) plain b)) _ h)))

module _ {s : Statement} (w : Writable july s) where
  -- the body is given by exactly this statement
  body_given : Gives (coding_of plain) plain (body_of s) (s ∷ [])
  body_given =
      record {
        line = refl;
        valid = (w.valid, tt);
        ok = rw (one_records (edition_of plain) s) w.ok;
        layout = sym (body_layout s);
        few = rw (one_records (edition_of plain) s) w.few;
      }

  -- so it is a file of it
  pub body_reads : Reads (coding_of plain) plain (body_of s) (s ∷ [])
  body_reads = gives_reads (coding_of plain) (lawful plain) body_given

  -- without a debit zero
  pub body_own : no_debit_zero (pieces (coding_of plain) plain (body_of s)) ≡ true
  body_own = (own_file plain (body_of s)).0 (sym body_reads.layout ∙ sym (body_layout s))

  -- and stands alone
  pub body_single : single (body_of s) ≡ true
  unfolding single
  body_single =
      let n : counts_one (check_of (coding_of plain) plain (body_of s)) ≡ true = rw (counts body_reads) in
      both n body_own

  pub length_body : length (body_of s) ≡ size_of s * record_size
  unfolding body_of width_of
  length_body =
      let rs = records_of (edition_of plain) s in
      ap (λ l. length (flat l)) (unended rs)
      ∙ length_flat record_size (pieces_for (coding_of plain) plain rs) (wide_pieces (coding_of plain) plain (lawful plain) refl rs w.ok)
      ∙ ap (λ (n : ℕ). n * record_size) (length-map (map encode_record rs) (piece_of plain) ∙ length-map rs encode_record ∙ length_one (edition_of plain) s)

  -- a statement has two records at least
  pub size_most : size_of s ≤ most_in_statement
  size_most = w.valid.short
