-- What an entry says, without the sound test: at the code's returns, and in a sound journal.
use mathlib.Core.Path.{◌≡◌, refl, sym, ap, ◌∙◌}
use mathlib.Core.Bool.{Bool, true, false, not, ◌&&◌}
use mathlib.Core.List.{List}
use Prim.Native.Nat.{ℕ, ◌+◌, ◌-◌, ◌*◌, ◌<◌, ◌≤◌}
use native.Mathlib.Omega.{arith}
use lib.Dec.{eqb, leb}
use lib.ListN.{length, get_or}
use borrow.Author.Tests.{eq-eqb, ne_eqb, eqb-true, eqb-false, le-leb, lt-leb, leb-true, leb-false, not-true, not-false}
use Rattle.zones.specs.Choice.{pick}
use Rattle.grammar.specs.Statements.{Statement}
use Rattle.grammar.specs.Files.{Writable}
use Rattle.grammar.specs.Parts.{size_of, records_before, no_statement}
use Rattle.grammar.proofs.Tests.{clash}
use Rattle.records.specs.July.{record_size, july, date_in}
use Rattle.readers.specs.declared.Place.{Place}
use Rattle.std.specs.Prelude.{Result, Ok, Err}
use Rattle.framing.specs.Refusals.{refusal_by}
use Rattle.framing.specs.declared.refusals.Reason.TheVariants.{UnsoundJournal, NoSuchEntry}
use Rattle.framing.specs.declared.refusals.Refusal.{Refusal}
use Rattle.bodies.specs.Bodies.{kept, opening_text, closing_text}
use Rattle.bodies.proofs.Single.{body_reads}
use Rattle.bodies.proofs.Ends.{opening_written, opening_there, opening_whole, closing_written, closing_there, closing_whole}
use Rattle.std.specs.Prelude.{Some, None}
use Rattle.entries.specs.declared.Entry.{Entry}
use Rattle.entries.proofs.Found.{used_found, none_found}
use Rattle.entries.specs.Entries.{Fields, most_entries, line_at, entry_bytes, entry_in, row_of}
use Rattle.entries.proofs.Written.{day_kept}
use Rattle.entries.proofs.Rows.{row_of_entry}
use Rattle.journal_layout.specs.Layout.{is_length, entry_of, row_for, Journal}
use Rattle.journal_layout.specs.Test.{numbered, sound_in, held_of, entry_place_of, listed_place_of}
use Rattle.journal_layout.proofs.Holding.{opening_length, closing_length, there_alone, there_entry, there_fields, there_inside}
use Rattle.journal_layout.proofs.Exact.{journal_long, journal_held, sound_journal}
use Rattle.journal_layout.proofs.Places.{numbered_there, used_held, entry_zero, entry_unused, entry_found}

module _ (j : List ℕ) (e : ℕ) {t : Bool} (p : t ≡ is_length (length j)) where
  pub not_long : not t ≡ true → Err (refusal_by UnsoundJournal 0) ≡ listed_place_of j e
  unfolding listed_place_of
  not_long h = sym (rw (← p, not-true t h))

  module _ (h : not t ≡ false) where
    pub listed_zero : e ≡ 0 → Err (refusal_by NoSuchEntry 0) ≡ listed_place_of j e
    unfolding listed_place_of
    listed_zero z = sym (rw (← p, not-false t h, eq-eqb e 0 z))

    module _ (some : e ≡ 0 → ⊥) {x : Fields} (q : x ≡ entry_in j (e - 1)) where
      pub listed_unused : not x.used ≡ true → Err (refusal_by NoSuchEntry 0) ≡ listed_place_of j e
      unfolding listed_place_of
      listed_unused n = sym (rw (← p, not-false t h, ne_eqb e 0 some, ← q, not-true x.used n))

      module _ (n : not x.used ≡ false) where
        pub listed_short : length j < line_at x.first + record_size * x.records → Err (refusal_by NoSuchEntry 0) ≡ listed_place_of j e
        unfolding listed_place_of
        listed_short l =
            sym
            (rw (← p, not-false t h, ne_eqb e 0 some, ← q, not-false x.used n, lt-leb (line_at x.first + record_size * x.records) (length j) l))

        pub listed_found : line_at x.first + record_size * x.records ≤ length j → Ok (record { first = line_at x.first; len = record_size * x.records }) ≡ listed_place_of j e
        unfolding listed_place_of
        listed_found l =
            sym
            (rw (← p, not-false t h, ne_eqb e 0 some, ← q, not-false x.used n, le-leb (line_at x.first + record_size * x.records) (length j) l))

    pub listed_none : None ≡ numbered j e → Err (refusal_by NoSuchEntry 0) ≡ listed_place_of j e
    listed_none q = by (eqb e 0) refl
      where
        by : (b : Bool) → eqb e 0 ≡ b → Err (refusal_by NoSuchEntry 0) ≡ listed_place_of j e
        by true z = listed_zero (eqb-true e 0 z)
        by false z = listed_unused (eqb-false e 0 z) refl (ap not (none_found (entry_in j (e - 1)) (rw z at q)))

    module _ {x : Entry} (q : Some x ≡ numbered j e) where
      pub numbered_short : length j < line_at x.first + record_size * x.records → Err (refusal_by NoSuchEntry 0) ≡ listed_place_of j e
      numbered_short = let n = numbered_there j e q in listed_short n.0 (used_found n.1) refl

      pub numbered_found : line_at x.first + record_size * x.records ≤ length j → Ok (record { first = line_at x.first; len = record_size * x.records }) ≡ listed_place_of j e
      numbered_found = let n = numbered_there j e q in listed_found n.0 (used_found n.1) refl

-- what a place listed means, whatever the bytes
pub record Listed (j : List ℕ) (e x n : ℕ) : Type 0 where
  pub long : is_length (length j) ≡ true
  pub some : 1 ≤ e
  pub index : e - 1 < most_entries
  pub first : x ≡ line_at (entry_in j (e - 1)).first
  pub len : n ≡ record_size * (entry_in j (e - 1)).records
  pub inside : x + n ≤ length j

used_index : (j : List ℕ) (i : ℕ) → (entry_in j i).used ≡ true → i < most_entries
unfolding entry_in
used_index j i u = by (leb most_entries i) refl
  where
    by : (a : Bool) → leb most_entries i ≡ a → i < most_entries
    by true p = absurd (let z : (entry_in j i).used ≡ false = rw p in clash u z)
    by false p = leb-false most_entries i p

pub listed : (j : List ℕ) (e : ℕ) {p : Place} → Ok p ≡ listed_place_of j e → Listed j e p.first p.len
unfolding listed_place_of
listed j e {p} q =
    by (is_length (length j)) refl (eqb e 0) refl y.used refl (leb (line_at y.first + record_size * y.records) (length j)) refl q
  where
    y : Fields
    y = entry_in j (e - 1)

    by : (a : Bool) → is_length (length j) ≡ a → (b : Bool) → eqb e 0 ≡ b → (c : Bool) → y.used ≡ c
        → (d : Bool) → leb (line_at y.first + record_size * y.records) (length j) ≡ d
        → Ok p ≡ pick a (pick b (Err (refusal_by NoSuchEntry 0)) (pick (c && d) (Ok (record { first = line_at y.first; len = record_size * y.records })) (Err (refusal_by NoSuchEntry 0)))) (Err (refusal_by UnsoundJournal 0))
        → Listed j e p.first p.len
    by false l b o c u d i q = absurd (let z : ◌≡◌ {A = ℕ} 0 1 = cc in omega arith)
    by true l true o c u d i q = absurd (let z : ◌≡◌ {A = ℕ} 0 1 = cc in omega arith)
    by true l false o false u d i q = absurd (let z : ◌≡◌ {A = ℕ} 0 1 = cc in omega arith)
    by true l false o true u false i q = absurd (let z : ◌≡◌ {A = ℕ} 0 1 = cc in omega arith)
    by true l false o true u true i q =
        let k = eqb-false e 0 o in
        let z : p ≡ record { first = line_at y.first; len = record_size * y.records } = cc in
        let h = leb-true (line_at y.first + record_size * y.records) (length j) i in
        record { long = l; some = omega arith; index = used_index j (e - 1) u; first = ap (λ a. a.first) z; len = ap (λ a. a.len) z; inside = omega (arith, ap (λ a. a.first) z, ap (λ a. a.len) z, h) }

-- in a sound journal it is the place that the sound test gives
pub listed_sound : (j : List ℕ) (e : ℕ) → sound_in j ≡ true → listed_place_of j e ≡ entry_place_of j e
listed_sound j e h = by (eqb e 0) refl (entry_in j (e - 1)).used refl
  where
    g : Journal j (held_of j)
    g = sound_journal j h

    long : true ≡ is_length (length j)
    long = sym (journal_long g)

    by : (a : Bool) → eqb e 0 ≡ a → (u : Bool) → (entry_in j (e - 1)).used ≡ u → listed_place_of j e ≡ entry_place_of j e
    by true z u v = let k = eqb-true e 0 z in sym (listed_zero j e long refl k) ∙ entry_zero j e (sym h) refl k
    by false z false v =
        let k = eqb-false e 0 z in
        sym (listed_unused j e long refl k refl (ap not v)) ∙ entry_unused j e (sym h) refl k refl (ap not v)
    by false z true v =
        let k = eqb-false e 0 z in
        let i = used_held g (e - 1) v in
        let a : line_at (entry_in j (e - 1)).first + record_size * (entry_in j (e - 1)).records ≤ length j =
        rw (there_fields (journal_held g).holding (e - 1) i) (there_inside (journal_held g).holding (e - 1) i) in
        sym (listed_found j e long refl k refl (ap not v) a) ∙ entry_found j e (sym h) refl k refl (ap not v)

-- and so at the code's return
pub sound_listed : (j : List ℕ) (e : ℕ) {t : Bool} {r : Result Place Refusal} → t ≡ sound_in j → t ≡ true → r ≡ listed_place_of j e → r ≡ entry_place_of j e
sound_listed j e p h q = q ∙ listed_sound j e (sym p ∙ h)

-- the dates of a statement's 01 and 07
module _ {s : Statement} (w : Writable july s) where
  old_date_there : date_in (opening_text s) ≡ s.old_date
  unfolding kept
  old_date_there =
      let r = body_reads w in
      ap date_in (sym (opening_written r)) ∙ day_kept _ (opening_whole r) ∙ (opening_there r).day

  new_date_there : date_in (closing_text s) ≡ s.new_date
  unfolding kept
  new_date_there =
      let r = body_reads w in
      ap date_in (sym (closing_written r)) ∙ day_kept _ (closing_whole r) ∙ (closing_there r).day

-- WHAT THE ROWS SAY: in a sound journal the row of entry e, from 1, is that of its statement
pub listed_row : (j : List ℕ) → sound_in j ≡ true → (e : ℕ) → 1 ≤ e → e ≤ length (held_of j)
    → row_of (entry_bytes j (e - 1)) ≡ row_for (get_or (held_of j) (e - 1) no_statement)
unfolding entry_of row_for
listed_row j h e a b =
    let g = (journal_held (sound_journal j h)).holding in
    let s = get_or (held_of j) (e - 1) no_statement in
    let i : e - 1 < length (held_of j) = omega arith in
    let w = there_alone g (e - 1) i in
    ap row_of (there_entry g (e - 1) i)
    ∙ row_of_entry (records_before (e - 1) (held_of j)) (size_of s) (opening_text s) (closing_text s) (opening_length w) (closing_length w)
    ∙ rw (old_date_there w, new_date_there w)
