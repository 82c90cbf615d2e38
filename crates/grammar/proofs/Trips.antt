-- What is read is written back in its canonical form, and what is written is read back; and what refusal 19 means.
use mathlib.Core.Path.{◌≡◌, refl, ◌∙◌}
use mathlib.Core.Logic.{◌↔◌}
use mathlib.Core.List.{List, [], ◌∷◌, append-nil}
use Prim.Native.Nat.{ℕ}
use Rattle.framing.specs.declared.Form.{Form}
use Rattle.grammar.specs.Answer.{Counts, accepted}
use Rattle.grammar.specs.Record.{Edition}
use Rattle.grammar.specs.Statements.{Statement, records_of, all_records}
use Rattle.grammar.specs.Files.{Coding, Lawful, canonical, layout_of, Reads, statements_of, Writable, check_of}
use Rattle.grammar.proofs.Canonical.{statements_canonical}
use Rattle.grammar.proofs.Exact.{layout_reads, reads, reads_same}

-- the records of one statement
pub one_records : (E : Edition) (s : Statement) → all_records E (s ∷ []) ≡ records_of E s
unfolding all_records
one_records E s = append-nil (records_of E s)

module _ (C : Coding) (L : Lawful C) where
  -- an accepted file, read and written, is the file with each record as the writer writes it
  pub read_written : (f : Form) (b : List ℕ) {c : Counts} → check_of C f b ≡ accepted c → layout_of C f (statements_of C f b) ≡ canonical C f b
  read_written f b e = (reads C L f b e).layout

  -- so it is the same file where each record stands as the writer writes it
  pub own_written : (f : Form) (b : List ℕ) {c : Counts} → canonical C f b ≡ b → check_of C f b ≡ accepted c → layout_of C f (statements_of C f b) ≡ b
  own_written f b o e = read_written f b e ∙ o

  -- statements that can be written, written and read
  pub written_read : {f : Form} {b : List ℕ} {ss : List Statement} → Reads C f b ss → statements_of C f (layout_of C f ss) ≡ ss
  written_read {f} {b} r = rw r.layout (statements_canonical C L f b ∙ reads_same C L r)

-- some accepted file reads as this statement alone exactly if it is writable
pub writable : (C : Coding) → Lawful C → (s : Statement) → ((f : Form) × ((b : List ℕ) × Reads C f b (s ∷ []))) ↔ Writable C s
writable C L s = (
  (λ r. let g = r.1.1 in
      record { valid = g.valid.0; ok = rw (one_records C.edition s) at g.ok; few = rw (one_records C.edition s) at g.few }),
  (λ w. (
    record { line_end = 0 },
    (
      layout_of C (record { line_end = 0 }) (s ∷ []),
      layout_reads C L refl (w.valid, tt) (rw (one_records C.edition s) w.ok) (rw (one_records C.edition s) w.few),
    ),
  )),
)
