-- What a loop over the statements of an accepted file goes by: it starts at 0, and goes on from a statement's place to its end while it is before the file's.
use mathlib.Core.Path.{◌≡◌, refl, ap, ◌∙◌}
use mathlib.Core.Bool.{Bool, true, false}
use mathlib.Core.List.{List, [], ◌∷◌, map}
use Prim.Native.Nat.{ℕ, ◌+◌, ◌-◌, ◌*◌, ◌<◌, ◌≤◌}
use native.Mathlib.Nat.{add-mul, add-sub_cancel_left, mul-le-mul_right}
use native.Mathlib.Omega.{arith}
use lib.Dec.{eqb}
use lib.ListN.{length, take, drop, get_or, length-drop}
use lib.Seq.{drop-length}
use borrow.Author.Tests.{eqb-true, eqb-false}
use Rattle.zones.specs.Pieces.{flat}
use Rattle.framing.specs.declared.Form.{Form}
use Rattle.framing.specs.Files.{width_of}
use Rattle.grammar.specs.Statements.{Statement, all_records}
use Rattle.grammar.specs.Files.{rec_of, pieces, Reads, statements_of}
use Rattle.grammar.specs.Parts.{size_of, records_before, no_statement, part_of}
use Rattle.grammar.proofs.Parts.{drop_before}
use Rattle.records.specs.July.{record_size, coding_of, edition_of}
use Rattle.records.proofs.Theorems.{counts, reads, unique}
use Rattle.readers.specs.Places.{end_after}
use Rattle.readers.proofs.Rows.{some, before_next, from_record, records_from}
use Rattle.readers.proofs.Cursor.{cursor}
use Rattle.readers.proofs.Placed.{before_inside}

-- no records, no pieces
no_pieces : (f : Form) (ps : List (List ℕ)) → map (rec_of (coding_of f)) ps ≡ [] → ps ≡ []
no_pieces f [] e = refl
no_pieces f (p ∷ ps) e = absurd (let z : ◌≡◌ {A = ℕ} 0 1 = cc in omega arith)

module _ {f : Form} {b : List ℕ} {ss : List Statement} (r : Reads (coding_of f) f b ss) where
  -- the place of a statement lies before the file's end
  pub before_end : (j : ℕ) → j < length ss → records_before j ss * width_of record_size f < length b
  before_end j h =
      let w = width_of record_size f in
      let n = size_of (get_or ss j no_statement) in
      let i = before_inside r (j + 1) (omega arith) in
      let e : records_before (j + 1) ss * w ≡ records_before j ss * w + n * w =
      rw (before_next j ss h) (add-mul (records_before j ss) n w) in
      let l : 2 ≤ n = omega arith in
      let k : 2 * w ≤ n * w = mul-le-mul_right w l in
      omega (arith, some f)

  -- the place after the last statement is the file's end
  pub after_last : records_before (length ss) ss * width_of record_size f ≡ length b
  unfolding flat all_records
  after_last =
      let n = records_before (length ss) ss in
      let m = n * width_of record_size f in
      let e : length (drop m b) ≡ 0 =
      ap length (from_record r n ∙ ap flat (no_pieces f (drop n (pieces (coding_of f) f b)) (records_from r n ∙ (drop_before (edition_of f) (length ss) ss ∙ ap (all_records (edition_of f)) (drop-length ss))))) in
      omega (arith, e, length-drop m b, before_inside r (length ss) (omega arith))

  -- at the place of statement i, from 0, and before the end of the file, there is one more
  pub one_more : {i at : ℕ} → i ≤ length ss → at ≡ records_before i ss * width_of record_size f → at < length b → i < length ss
  one_more {i} {at} u p l = by (eqb i (length ss)) refl
    where
      by : (t : Bool) → eqb i (length ss) ≡ t → i < length ss
      by true q = absurd (let z : at ≡ length b = p ∙ ap (λ (m : ℕ). records_before m ss * width_of record_size f) (eqb-true i (length ss) q) ∙ after_last in omega arith)
      by false q = let n = eqb-false i (length ss) q in omega arith

  -- the end of the file is the end of its statements
  pub last_turn : {i at : ℕ} → i ≤ length ss → at ≡ records_before i ss * width_of record_size f → length b ≤ at → i ≡ length ss
  last_turn {i} {at} u p l = by (eqb i (length ss)) refl
    where
      by : (t : Bool) → eqb i (length ss) ≡ t → i ≡ length ss
      by true q = eqb-true i (length ss) q
      by false q = absurd (let n = eqb-false i (length ss) q in let h = before_end i (omega arith) in omega arith)

  -- what lies between the two places is statement j + 1
  pub between : (j : ℕ) → j < length ss
      → take (end_after f b (records_before j ss * width_of record_size f) - records_before j ss * width_of record_size f) (drop (records_before j ss * width_of record_size f) b)
      ≡ part_of (coding_of f) f b (j + 1)
  unfolding part_of
  between j h =
      let w = width_of record_size f in
      let n = size_of (get_or ss j no_statement) in
      let q : statements_of (coding_of f) f b ≡ ss = unique (reads f b (counts r)) r in
      let z : j + 1 - 1 ≡ j = omega arith in
      let e : end_after f b (records_before j ss * w) - records_before j ss * w ≡ n * w =
      rw (cursor r j h, before_next j ss h, add-mul (records_before j ss) n w) (add-sub_cancel_left (records_before j ss * w) (n * w)) in
      rw (e, q, z)
