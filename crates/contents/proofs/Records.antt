-- A record of an accepted file, found at its place.
use mathlib.Core.Path.{◌≡◌, refl, sym, ap, ◌∙◌}
use mathlib.Core.Bool.{Bool, true, false}
use mathlib.Core.List.{List, [], ◌∷◌, map}
use Prim.Native.Nat.{ℕ, ◌+◌, ◌-◌, ◌*◌, ◌<◌, ◌≤◌}
use native.Mathlib.Nat.{add-sub_cancel_left}
use native.Mathlib.Omega.{arith}
use lib.Dec.{ltb}
use lib.ListN.{length, take, drop, length-drop, length-append}
use lib.Seq.{take-append-le, length-take-le}
use borrow.Author.Tests.{lt-ltb, le-ltb, ltb-false}
use Rattle.zones.specs.Choice.{pick}
use Rattle.zones.specs.Pieces.{flat}
use Rattle.framing.specs.declared.Form.{Form}
use Rattle.framing.specs.Files.{All, width_of}
use Rattle.framing.proofs.Cuts.{Wide}
use Rattle.grammar.specs.Record.{Rec}
use Rattle.grammar.specs.Statements.{Statement, all_records}
use Rattle.grammar.specs.Files.{rec_of, pieces, Reads, Fine}
use Rattle.grammar.proofs.Parts.{all_drop}
use Rattle.grammar.proofs.Canonical.{wide_all}
use Rattle.records.specs.July.{record_size, july, decode_record, canon_record, encode_record, coding_of, edition_of}
use Rattle.records.proofs.Lawful.{july_lawful, lawful}
use Rattle.readers.proofs.Rows.{from_record, records_from, fine_from}
use Rattle.contents.specs.Heads.{record_at_of}

-- as the code comes to it
pub none_short : (b : List ℕ) (at : ℕ) → length b < record_size → [] ≡ record_at_of b at
unfolding record_at_of
none_short b at h = sym (rw (lt-ltb (length b) (at + record_size) (omega arith)))

pub none_past : (b : List ℕ) (at : ℕ) → record_size ≤ length b → length b - record_size < at → [] ≡ record_at_of b at
unfolding record_at_of
none_past b at h p = sym (rw (lt-ltb (length b) (at + record_size) (omega arith)))

pub cut_out : (b : List ℕ) (at : ℕ) → record_size ≤ length b → at ≤ length b - record_size → take (at + record_size - at) (drop at b) ≡ record_at_of b at
unfolding record_at_of
cut_out b at h p = rw (add-sub_cancel_left at record_size) (sym (rw (le-ltb (length b) (at + record_size) (omega arith))))

-- the record at a place holds these values
pub record HoldsAt (b : List ℕ) (at : ℕ) (x : Rec) : Type 0 where
  pub whole : length (record_at_of b at) ≡ record_size
  pub values : decode_record (record_at_of b at) ≡ x
  pub fine : Fine july (record_at_of b at)

-- a whole record lies in the file
pub whole_inside : (b : List ℕ) (at : ℕ) → length (record_at_of b at) ≡ record_size → at + record_size ≤ length b
unfolding record_at_of
whole_inside b at e = by (ltb (length b) (at + record_size)) refl e
  where
    by : (t : Bool) → ltb (length b) (at + record_size) ≡ t → length (pick t [] (take record_size (drop at b))) ≡ record_size → at + record_size ≤ length b
    by true p g = absurd (omega arith)
    by false p g = ltb-false (length b) (at + record_size) p

module _ {f : Form} {b : List ℕ} {ss : List Statement} (r : Reads (coding_of f) f b ss) where
  -- record n, from 0: its values
  pub record_there : (n : ℕ) {x : Rec} {l : List Rec} → drop n (all_records (edition_of f) ss) ≡ x ∷ l → HoldsAt b (n * width_of record_size f) x
  unfolding record_at_of flat width_of
  record_there n {x} {l} e = go (drop n (pieces (coding_of f) f b)) (records_from r n ∙ e) (all_drop _ n (pieces (coding_of f) f b) (wide_all (coding_of f) (lawful f) f b)) (fine_from r n) (from_record r n)
    where
      go : (ps : List (List ℕ)) → map (rec_of (coding_of f)) ps ≡ x ∷ l → Wide (width_of record_size f) ps → All (λ p. Fine (coding_of f) (take record_size p)) ps → drop (n * width_of record_size f) b ≡ flat ps
          → HoldsAt b (n * width_of record_size f) x
      go [] d w o q = absurd (let z : ◌≡◌ {A = ℕ} 0 1 = cc in omega arith)
      go (p ∷ ps) d w o q =
          let at = n * width_of record_size f in
          let i : length (drop at b) ≡ length p + length (flat ps) = ap length q ∙ length-append p (flat ps) in
          let h : record_size ≤ length p = omega (arith, w.0) in
          let u : record_at_of b at ≡ take record_size p =
          rw (le-ltb (length b) (at + record_size) (omega (arith, length-drop at b))) (ap (take record_size) q ∙ take-append-le record_size p (flat ps) h) in
          let v : rec_of (coding_of f) p ≡ x = cc in
          record { whole = ap length u ∙ length-take-le record_size p h; values = ap decode_record u ∙ v; fine = rw u o.0 }

-- the record at a place as the writer writes it
pub record_kept : {b : List ℕ} {at : ℕ} {x : Rec} → HoldsAt b at x → canon_record (record_at_of b at) ≡ encode_record x
record_kept {b} {at} h = sym (july_lawful.again (record_at_of b at) h.whole h.fine) ∙ ap encode_record h.values
