-- One statement of an accepted file after another: its place, its part, and the place after it.
use mathlib.Core.Path.{◌≡◌, ap, ◌∙◌}
use mathlib.Core.List.{List, [], ◌∷◌}
use Prim.Native.Nat.{ℕ, ◌+◌, ◌-◌, ◌*◌, ◌/◌, ◌<◌, ◌≤◌}
use native.Mathlib.Nat.{add-mul, mul-div_cancel, mul-le-mul_right}
use native.Mathlib.Omega.{arith}
use lib.ListN.{length, take, drop, get_or}
use borrow.Author.Tests.{ltb-false}
use Rattle.framing.specs.declared.Form.{Form}
use Rattle.framing.specs.Files.{line_end, width_of}
use Rattle.grammar.specs.Statements.{Statement, all_records}
use Rattle.grammar.specs.Files.{Reads}
use Rattle.grammar.specs.Parts.{size_of, records_before, no_statement}
use Rattle.grammar.proofs.Exact.{reads_length}
use Rattle.records.specs.July.{record_size, most_in_file, coding_of, edition_of}
use Rattle.records.proofs.Lawful.{lawful}
use Rattle.records.proofs.Theorems.{part_reads}
use Rattle.readers.specs.Places.{end_after}
use Rattle.readers.proofs.Cursor.{cursor}
use Rattle.readers.proofs.Placed.{before_inside}
use Rattle.readers.proofs.Rows.{some, before_next}
use Rattle.readers.proofs.Turns.{between, one_more}

-- the longest file: two bytes at most stand after a record
abbrev pub largest_file : ℕ
largest_file = most_in_file * (record_size + 2)

-- no accepted file is longer
pub file_small : {f : Form} {b : List ℕ} {ss : List Statement} → Reads (coding_of f) f b ss → length b ≤ largest_file
unfolding width_of
file_small {f} {b} {ss} r =
    let l = reads_length (coding_of f) (lawful f) r in
    let m : length (all_records (edition_of f) ss) * (record_size + line_end f) ≤ most_in_file * (record_size + line_end f) = mul-le-mul_right (record_size + line_end f) r.few in
    let e = ltb-false 2 (line_end f) r.line in
    omega arith

-- what a turn of the loop knows: statement i, from 0, of those of the file
pub record Turn (f : Form) (b : List ℕ) (ss : List Statement) (i at end : ℕ) : Type 0 where
  pub index : i < length ss
  pub next : end ≡ records_before (i + 1) ss * width_of record_size f
  pub rises : at < end
  pub within : end ≤ length b
  pub reads : Reads (coding_of f) f (take (end - at) (drop at b)) (get_or ss i no_statement ∷ [])
  pub len : end - at ≡ size_of (get_or ss i no_statement) * width_of record_size f
  pub size : (end - at) / width_of record_size f ≡ size_of (get_or ss i no_statement)
  pub behind : at / width_of record_size f ≡ records_before i ss

module _ {f : Form} {b : List ℕ} {ss : List Statement} (r : Reads (coding_of f) f b ss) where
  pub turn_at : {i at end : ℕ} → i ≤ length ss → at ≡ records_before i ss * width_of record_size f → at < length b → end ≡ end_after f b at → Turn f b ss i at end
  turn_at {i} {at} {end} u p l e =
      let w = width_of record_size f in
      let m = records_before i ss in
      let n = size_of (get_or ss i no_statement) in
      let h : i < length ss = one_more r u p l in
      let c : end ≡ records_before (i + 1) ss * w = e ∙ ap (end_after f b) p ∙ cursor r i h in
      let d : records_before (i + 1) ss * w ≡ m * w + n * w = rw (before_next i ss h) (add-mul m n w) in
      let k : 2 * w ≤ n * w = mul-le-mul_right w (omega arith) in
      let z : end - at ≡ n * w = omega arith in
      record {
        index = h;
        next = c;
        rises = omega (arith, some f);
        within = rw c (before_inside r (i + 1) (omega arith));
        reads = rw (e, p, between r i h) (part_reads r i h);
        len = z;
        size = rw z (mul-div_cancel n (some f));
        behind = rw p (mul-div_cancel m (some f));
      }
