-- The records of July 2004 are a lawful coding.
use mathlib.Core.Path.{◌≡◌, ap, sym, ◌∙◌}
use mathlib.Core.Bool.{true}
use mathlib.Core.List.{List}
use Prim.Native.Nat.{ℕ}
use native.Mathlib.Omega.{arith}
use lib.ListN.{length}
use lib.IntN.{ℤ}
use Rattle.zones.specs.Text.{bytes}
use Rattle.zones.proofs.Copies.{equal_same}
use Rattle.framing.specs.declared.Form.{Form}
use Rattle.layouts.specs.Zone.{encode, canon}
use Rattle.layouts.proofs.PerLayout.{Fits, encode_decode, holds_decode, decode_encode}
use Rattle.grammar.specs.declared.Key.{Key}
use Rattle.grammar.specs.Record.{Posting, Rec, opening, movement, complement, closing}
use Rattle.grammar.specs.Files.{Fine, Lawful}
use Rattle.records.specs.Layouts.{layout01, layout04, layout07}
use Rattle.records.specs.July.{record_size, is_code, layout05_of, layout_for, decode_record, balance_values, movement_values, write_balance, write_movement, write_complement, encode_record, Holds, canon_record, july, coding_of}
use Rattle.records.proofs.Covered.{covers01, covers04, covers07}
use Rattle.records.proofs.Coded.{As, as01, as04, as05, as07, Coded, is01, is04, is05, is07, coded}
use Rattle.records.proofs.Valued.{Judged, judged, fine, written_length, written_judged, written_marks, written_permitted}
use Rattle.records.proofs.Canon.{balance_in, movement_in, canon05, alike, once}
use Rattle.records.proofs.Complements.{complement_again, placed, complement_permitted}
use Rattle.records.proofs.Held.{judged_held, held_judged}

-- BYTES TO VALUES
fits01 : (b : List ℕ) → is_code "01" b ≡ true → Judged layout01 b → Fits layout01 b
fits01 b h j = record { marks = h; zones = j.zones; dates = j.dates }

fits04 : (b : List ℕ) → is_code "04" b ≡ true → Judged layout04 b → Fits layout04 b
fits04 b h j = record { marks = h; zones = j.zones; dates = j.dates }

fits07 : (b : List ℕ) → is_code "07" b ≡ true → Judged layout07 b → Fits layout07 b
fits07 b h j = record { marks = h; zones = j.zones; dates = j.dates }

again : (b : List ℕ) → length b ≡ record_size → Fine july b → encode_record (decode_record b) ≡ canon_record b
unfolding write_balance write_movement canon_record
again b l f = by (coded b f.known)
  where
    by : Coded b → encode_record (decode_record b) ≡ canon (layout_for b) b
    by (is01 h a) = rw a.layout (ap encode_record a.values ∙ encode_decode record_size layout01 b covers01 l (fits01 b h (judged l a f)))
    by (is04 h a) = rw a.layout (ap encode_record a.values ∙ encode_decode record_size layout04 b covers04 l (fits04 b h (judged l a f)))
    by (is05 h a) = rw a.layout (ap encode_record a.values ∙ complement_again b l h (judged l a f) ∙ sym (canon05 b l))
    by (is07 h a) = rw a.layout (ap encode_record a.values ∙ encode_decode record_size layout07 b covers07 l (fits07 b h (judged l a f)))

ok : (b : List ℕ) → length b ≡ record_size → Fine july b → Holds (decode_record b)
ok b l f = by (coded b f.known)
  where
    by : Coded b → Holds (decode_record b)
    by (is01 h a) = rw a.values (holds_decode record_size layout01 b covers01 l (fits01 b h (judged l a f)))
    by (is04 h a) = rw a.values (holds_decode record_size layout04 b covers04 l (fits04 b h (judged l a f)))
    by (is05 h a) = rw a.values (judged_held b l (judged l a f))
    by (is07 h a) = rw a.values (holds_decode record_size layout07 b covers07 l (fits07 b h (judged l a f)))

-- VALUES TO BYTES
-- a written record has its code, its layout and its values
as_opening : (k : Key) (d : ℕ) (a : ℤ) → Holds (opening k d a) → As (write_balance "01" k d a) layout01 (opening k d a)
unfolding write_balance balance_in
as_opening k d a h =
    let v = balance_values "01" k d a in
    let s = as01 (encode layout01 v) (written_marks layout01 covers01 v h) in
    record { layout = s.layout; values = s.values ∙ ap (balance_in opening) (decode_encode record_size layout01 v covers01 h); known = s.known }

as_closing : (k : Key) (d : ℕ) (a : ℤ) → Holds (closing k d a) → As (write_balance "07" k d a) layout07 (closing k d a)
unfolding write_balance balance_in
as_closing k d a h =
    let v = balance_values "07" k d a in
    let s = as07 (encode layout07 v) (written_marks layout07 covers07 v h) in
    record { layout = s.layout; values = s.values ∙ ap (balance_in closing) (decode_encode record_size layout07 v covers07 h); known = s.known }

as_movement : (k : Key) (p : Posting) → Holds (movement k p) → As (write_movement k p) layout04 (movement k p)
unfolding write_movement movement_in
as_movement k p h =
    let v = movement_values k p in
    let s = as04 (encode layout04 v) (written_marks layout04 covers04 v h) in
    record { layout = s.layout; values = s.values ∙ ap movement_in (decode_encode record_size layout04 v covers04 h); known = s.known }

as_complement : (e t : List ℕ) → Holds (complement e t) → As (write_complement e t) (layout05_of t) (complement e t)
as_complement e t h =
    let p = placed e t h.0.size h.1.size in
    let s = as05 (write_complement e t) (rw p.code (equal_same (bytes "05"))) in
    record {
      layout = rw p.text at s.layout;
      values = rw (p.repeated, p.text) at s.values;
      known = s.known;
    }

wide : (r : Rec) → Holds r → length (encode_record r) ≡ record_size
unfolding write_balance write_movement
wide (opening k d a) h = written_length layout01 covers01 (balance_values "01" k d a) h
wide (movement k p) h = written_length layout04 covers04 (movement_values k p) h
wide (complement e t) h = (placed e t h.0.size h.1.size).size
wide (closing k d a) h = written_length layout07 covers07 (balance_values "07" k d a) h

written_fine : (r : Rec) → Holds r → Fine july (encode_record r)
unfolding write_balance write_movement
written_fine (opening k d a) h =
    let v = balance_values "01" k d a in
    fine (wide (opening k d a) h) (as_opening k d a h) (written_judged layout01 covers01 v h) (written_permitted layout01 covers01 v h)
written_fine (movement k p) h =
    let v = movement_values k p in
    fine (wide (movement k p) h) (as_movement k p h) (written_judged layout04 covers04 v h) (written_permitted layout04 covers04 v h)
written_fine (complement e t) h =
    let j = held_judged e t h.0 h.1 in
    fine (wide (complement e t) h) (as_complement e t h) j (complement_permitted e t (placed e t h.0.size h.1.size) j)
written_fine (closing k d a) h =
    let v = balance_values "07" k d a in
    fine (wide (closing k d a) h) (as_closing k d a h) (written_judged layout07 covers07 v h) (written_permitted layout07 covers07 v h)

same : (r : Rec) → Holds r → decode_record (encode_record r) ≡ r
same (opening k d a) h = (as_opening k d a h).values
same (movement k p) h = (as_movement k p h).values
same (complement e t) h = (as_complement e t h).values
same (closing k d a) h = (as_closing k d a h).values

pub july_lawful : Lawful july
july_lawful =
    record {
      some = omega arith;
      ok = ok;
      alike = alike;
      once = once;
      again = again;
      wide = wide;
      fine = written_fine;
      same = same;
    }

-- and so are the records of a file of any form
pub lawful : (f : Form) → Lawful (coding_of f)
lawful f = july_lawful
