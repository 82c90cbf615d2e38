-- What the writer promises: when it refuses with 19, what a file of its bytes reads as, and that reading and writing give the records back, with `{` for a debit zero.
use mathlib.Core.Path.{◌≡◌, refl, sym, ap, ap₂, ◌∙◌}
use mathlib.Core.Logic.{◌↔◌}
use mathlib.Core.Bool.{Bool, true, false}
use mathlib.Core.List.{List, [], ◌∷◌, ◌++◌, map, append-nil}
use Prim.Native.Nat.{ℕ, ◌+◌, ◌<◌}
use native.Mathlib.Omega.{arith}
use lib.Dec.{ltb}
use lib.ListN.{length, take, get_or}
use Rattle.std.specs.Prelude.{Ok, Err}
use Rattle.zones.specs.Choice.{pick}
use Rattle.zones.specs.Pieces.{flat}
use Rattle.framing.specs.declared.Form.{Form}
use Rattle.framing.specs.Files.{All, file_of, end_of, plain}
use Rattle.framing.specs.Refusals.{refusal_by}
use Rattle.framing.specs.declared.refusals.Reason.TheVariants.{ShortOutput}
use Rattle.grammar.specs.Record.{Rec}
use Rattle.grammar.specs.Statements.{Statement, records_of_movements, records_of, all_records}
use Rattle.grammar.specs.Files.{pieces, canonical, layout_of, Gives, Reads, Writable}
use Rattle.grammar.specs.Parts.{no_statement, part_of}
use Rattle.grammar.proofs.Seam.{pieces_for, bodies_pieces}
use Rattle.grammar.proofs.Canonical.{pieces_canonical}
use Rattle.grammar.proofs.Exact.{gives_reads, reads_pieces}
use Rattle.grammar.proofs.Trips.{one_records}
use Rattle.records.specs.July.{record_size, Holds, encode_record, no_debit_zero, coding_of, edition_of}
use Rattle.records.proofs.Lawful.{lawful}
use Rattle.records.proofs.Theorems as records
use Rattle.fields.specs.declared.Movement.{Movement}
use Rattle.contents.specs.Heads.{head_from}
use Rattle.contents.specs.declared.Head.{Head}
use Rattle.tables.specs.Tables.{rows_of}
use Rattle.writer.specs.Values.{statement_from, texts_of, ReadAs, Carried, written_of, records_in}
use Rattle.writer.specs.Test.{carries}
use Rattle.writer.specs.Writing.{write_answer_of}
use Rattle.writer.specs.Answers.{paper_write}
use Rattle.writer.proofs.Alls.{all_left}
use Rattle.writer.proofs.Back.{rows_back, texts_back, movements_back, texts_counted}
use Rattle.writer.proofs.Carried.{carried, carries_all}
use Rattle.writer.proofs.Laid.{text}

-- a file without line ends is its records
plain_file : (rs : List Rec) → file_of plain (map encode_record rs) ≡ text rs
unfolding file_of flat end_of
plain_file [] = refl
plain_file (r ∷ rs) = ap₂ ◌++◌ (append-nil (encode_record r)) (plain_file rs)

module _ (h : Head) (rows : List Movement) (cs : List ℕ) where
  abbrev s : Statement
  s = statement_from h rows cs

  -- WHAT IS WRITTEN is what the statement of these values gives, without line ends
  pub written_given : Carried h rows cs → Gives (coding_of plain) plain (written_of h rows cs) (s ∷ [])
  unfolding written_of layout_of
  written_given c =
      let w = c.writable in
      record {
        line = refl;
        valid = (w.valid, tt);
        ok = rw (one_records (edition_of plain) s) w.ok;
        layout = rw (one_records (edition_of plain) s) (plain_file (records_of (edition_of plain) s));
        few = rw (one_records (edition_of plain) s) w.few;
      }

  -- so it has no debit zero
  pub written_own : Carried h rows cs → no_debit_zero (pieces (coding_of plain) plain (written_of h rows cs)) ≡ true
  written_own c = records.given_own (written_given c)

  -- it is accepted and reads as that statement
  pub written_reads : Carried h rows cs → Reads (coding_of plain) plain (written_of h rows cs) (s ∷ [])
  written_reads c = gives_reads (coding_of plain) (lawful plain) (written_given c)

  -- and as exactly these values
  pub carried_read : Carried h rows cs → ReadAs h rows cs
  carried_read c =
      record {
        form = plain;
        file = written_of h rows cs;
        statements = s ∷ [];
        reads = written_reads c;
        number = 0;
        inside = omega arith;
        same_head = refl;
        same_rows = rows_back rows cs;
        same_complements = texts_back rows cs c.whole;
      }

module _ {f : Form} {b : List ℕ} {ss : List Statement} (r : Reads (coding_of f) f b ss) (j : ℕ) (l : j < length ss) where
  abbrev t : Statement
  t = get_or ss j no_statement

  abbrev cs : List ℕ
  cs = flat (texts_of t.movements)

  alone : Reads (coding_of f) f (part_of (coding_of f) f b (j + 1)) (t ∷ [])
  alone = records.part_reads r j l

  writable : Writable (coding_of f) t
  writable = (records.writable t).0 (f, (part_of (coding_of f) f b (j + 1), alone))

  held : All Holds (records_of_movements (edition_of f) t.key t.movements)
  unfolding records_of
  held = all_left Holds (records_of_movements (edition_of f) t.key t.movements) _ writable.ok.1

  -- the values read of a statement say that statement
  statement_back : statement_from (head_from t) (rows_of t.movements) cs ≡ t
  statement_back = ap (λ ms. record { key = t.key; old_date = t.old_date; old_balance = t.old_balance; movements = ms; new_date = t.new_date; new_balance = t.new_balance }) (movements_back t.key t.movements held)

  pub read_carried : Carried (head_from t) (rows_of t.movements) cs
  read_carried = record { whole = texts_counted t.key t.movements held; writable = rw statement_back writable }

  -- THE ROUND TRIP: head, rows and complements read of statement j, from 0, are written as its records, each as the writer writes it
  pub read_written : written_of (head_from t) (rows_of t.movements) cs ≡ records_in f (canonical (coding_of f) f (part_of (coding_of f) f b (j + 1)))
  unfolding written_of records_in
  read_written =
      let rs = all_records (edition_of f) (t ∷ []) in
      let p : pieces (coding_of f) f (canonical (coding_of f) f (part_of (coding_of f) f b (j + 1))) ≡ pieces_for (coding_of f) f rs =
      pieces_canonical (coding_of f) (lawful f) f (part_of (coding_of f) f b (j + 1)) ∙ reads_pieces (coding_of f) (lawful f) alone in
      ap (λ s. text (records_of (edition_of f) s)) statement_back
      ∙ sym (ap (λ ps. flat (map (take record_size) ps)) p ∙ ap flat (bodies_pieces (coding_of f) f (lawful f) rs alone.ok ∙ ap (map encode_record) (one_records (edition_of f) t)))

  -- without a debit zero they are the same records
  pub own_written : no_debit_zero (pieces (coding_of f) f (part_of (coding_of f) f b (j + 1))) ≡ true → written_of (head_from t) (rows_of t.movements) cs ≡ records_in f (part_of (coding_of f) f b (j + 1))
  own_written h = read_written ∙ ap (records_in f) ((records.own_file f (part_of (coding_of f) f b (j + 1))).1 h)

module _ (h : Head) (rows : List Movement) (cs : List ℕ) where
  -- 19 EXACTLY: no accepted file reads as these values
  pub read_carries : ReadAs h rows cs → carries h rows cs ≡ true
  read_carries r = carries_all h rows cs (rw (r.same_head, r.same_rows, r.same_complements) at (read_carried r.reads r.number r.inside))

  pub refused_19 : (n : ℕ) → ((paper_write (write_answer_of h rows cs n)).number ≡ 19) ↔ (ReadAs h rows cs → ⊥)
  unfolding write_answer_of
  refused_19 n = (
    (λ e r. other (ltb n (length (written_of h rows cs))) (length (written_of h rows cs)) (rw (read_carries r) at e)),
    (λ none. by (carries h rows cs) refl none),
  )
    where
      other : (t : Bool) (m : ℕ) → (paper_write (pick t (Err (refusal_by ShortOutput 0)) (Ok m))).number ≡ 19 → ⊥
      other true m e = omega arith
      other false m e = omega arith

      by : (t : Bool) → carries h rows cs ≡ t → (ReadAs h rows cs → ⊥) → (paper_write (write_answer_of h rows cs n)).number ≡ 19
      by true e none = absurd (none (carried_read h rows cs (carried h rows cs e)))
      by false e none = rw e
