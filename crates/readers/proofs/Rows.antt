-- Where the records of a file stand: behind the records of some statements, and in the file's bytes.
use mathlib.Core.Path.{◌≡◌, sym, ap, ◌∙◌}
use mathlib.Core.List.{List, [], ◌∷◌, map}
use Prim.Native.Nat.{ℕ, zero, suc, ◌+◌, ◌*◌, ◌/◌, ◌<◌}
use native.Mathlib.Nat.{zero-add, suc-add, mul-div_cancel}
use native.Mathlib.Numerals.{add-one}
use native.Mathlib.Omega.{arith}
use lib.ListN.{length, take, drop, get_or}
use Rattle.zones.specs.Pieces.{flat}
use Rattle.framing.specs.declared.Form.{Form}
use Rattle.framing.specs.Files.{All, width_of, chunks, pieces_of}
use Rattle.framing.proofs.Cuts.{Wide, chunks_flat, length_flat, flat_drop}
use Rattle.grammar.specs.Record.{Rec}
use Rattle.grammar.specs.Statements.{Statement, all_records}
use Rattle.grammar.specs.Files.{Fine, rec_of, pieces, Reads}
use Rattle.grammar.specs.Parts.{size_of, records_before, no_statement}
use Rattle.grammar.proofs.Rows.{adds_then}
use Rattle.grammar.proofs.Parts.{all_drop, map_drop}
use Rattle.grammar.proofs.Canonical.{wide_all}
use Rattle.grammar.proofs.Exact.{reads_flat, reads_records, reads_fine}
use Rattle.records.specs.July.{record_size, coding_of, edition_of}
use Rattle.records.proofs.Lawful.{lawful}

-- the records behind some 05
pub drop_adds : (e : List ℕ) (ts : List (List ℕ)) (l : List Rec) (n : ℕ) → drop (length ts + n) (adds_then e ts l) ≡ drop n l
drop_adds e [] l n = rw (zero-add n)
drop_adds e (t ∷ ts) l n = rw (suc-add (length ts) n) (drop_adds e ts l n)

-- one statement more
next_before : (j : ℕ) (ss : List Statement) → j < length ss → records_before (suc j) ss ≡ records_before j ss + size_of (get_or ss j no_statement)
unfolding records_before
next_before j [] h = absurd (omega arith)
next_before zero (s ∷ ss) h = omega arith
next_before (suc j) (s ∷ ss) h = omega (arith, next_before j ss (omega arith))

pub before_next : (j : ℕ) (ss : List Statement) → j < length ss → records_before (j + 1) ss ≡ records_before j ss + size_of (get_or ss j no_statement)
before_next j ss h = rw (add-one j) (next_before j ss h)

-- a record has some bytes
pub some : (f : Form) → 0 < width_of record_size f
unfolding width_of
some f = omega arith

-- whole pieces put together are cut into the same pieces
pieces_flat : (w : ℕ) (ps : List (List ℕ)) → 0 < w → Wide w ps → chunks w (length (flat ps) / w) (flat ps) ≡ ps
pieces_flat w ps h x = rw (length_flat w ps x, mul-div_cancel (length ps) h) (chunks_flat w ps x)

module _ {f : Form} {b : List ℕ} {ss : List Statement} (r : Reads (coding_of f) f b ss) where
  -- the bytes from record n on, from 0, are those of the records from it on
  pub from_record : (n : ℕ) → drop (n * width_of record_size f) b ≡ flat (drop n (pieces (coding_of f) f b))
  from_record n =
      ap (drop (n * width_of record_size f)) (sym (reads_flat (coding_of f) (lawful f) r)) ∙ flat_drop (width_of record_size f) n (pieces (coding_of f) f b) (wide_all (coding_of f) (lawful f) f b)

  -- and are cut into their pieces
  pub pieces_from : (n : ℕ) → pieces_of record_size f (drop (n * width_of record_size f) b) ≡ drop n (pieces (coding_of f) f b)
  pieces_from n =
      ap (pieces_of record_size f) (from_record n)
      ∙ pieces_flat (width_of record_size f) (drop n (pieces (coding_of f) f b)) (some f) (all_drop _ n (pieces (coding_of f) f b) (wide_all (coding_of f) (lawful f) f b))

  -- which hold the records
  pub records_from : (n : ℕ) → map (rec_of (coding_of f)) (drop n (pieces (coding_of f) f b)) ≡ drop n (all_records (edition_of f) ss)
  records_from n = sym (map_drop (rec_of (coding_of f)) n (pieces (coding_of f) f b)) ∙ ap (drop n) (reads_records (coding_of f) (lawful f) r)

  -- and are fine
  pub fine_from : (n : ℕ) → All (λ p. Fine (coding_of f) (take record_size p)) (drop n (pieces (coding_of f) f b))
  fine_from n = all_drop _ n (pieces (coding_of f) f b) (reads_fine (coding_of f) (lawful f) r)
