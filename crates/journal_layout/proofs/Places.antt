-- The place and the body of an entry, at the code's returns.
use mathlib.Core.Path.{◌≡◌, refl, sym, ap, ◌∙◌}
use mathlib.Core.Bool.{Bool, true, false, not, ◌||◌}
use mathlib.Core.List.{List, []}
use Prim.Native.Nat.{ℕ, ◌+◌, ◌-◌, ◌*◌, ◌<◌, ◌≤◌}
use native.Mathlib.Omega.{arith}
use lib.Dec.{eqb, leb, ltb}
use lib.ListN.{length, take, drop, get_or}
use borrow.Author.Tests.{eq-eqb, ne_eqb, le-ltb, leb-true, leb-false, ltb-false, eqb-false, not-true, not-false}
use Rattle.zones.specs.Choice.{pick}
use Rattle.grammar.specs.Statements.{Statement}
use Rattle.grammar.specs.Parts.{size_of, records_before, no_statement}
use Rattle.grammar.proofs.Tests.{clash}
use Rattle.records.specs.July.{record_size}
use Rattle.std.specs.Prelude.{Ok, Err}
use Rattle.framing.specs.Refusals.{refusal_by}
use Rattle.framing.specs.declared.refusals.Reason.TheVariants.{UnsoundJournal, NoSuchEntry}
use Rattle.framing.specs.declared.refusals.Refusal.{Refusal}
use Rattle.readers.specs.declared.Place.{Place}
use Rattle.std.specs.Prelude.{Some, None}
use Rattle.entries.specs.declared.Entry.{Entry}
use Rattle.entries.specs.Answers.{UsedAt}
use Rattle.entries.proofs.Found.{Small, fields_from, used_small}
use Rattle.entries.specs.Entries.{Fields, used_entry, most_entries, table_size, line_at, entry_in}
use Rattle.journal_layout.specs.Layout.{Journal, place_among}
use Rattle.journal_layout.specs.Test.{numbered, sound_in, held_of, entry_place_of, entry_body_of}
use Rattle.journal_layout.proofs.Testing.{cut, is_long}
use Rattle.journal_layout.proofs.Holding.{there_fields, there_inside, there_lines}
use Rattle.journal_layout.proofs.Exact.{journal_long, journal_held, unused_there, sound_journal}

-- an entry that the code finds by its number, from 1
module _ (j : List ℕ) (e : ℕ) where
  pub numbered_there : {x : Entry} → Some x ≡ numbered j e → (e ≡ 0 → ⊥) × (Some x ≡ used_entry (entry_in j (e - 1)))
  numbered_there {x} q = by (eqb e 0) refl
    where
      by : (t : Bool) → eqb e 0 ≡ t → (e ≡ 0 → ⊥) × (Some x ≡ used_entry (entry_in j (e - 1)))
      by true z = let o : Some x ≡ None = rw z at q in cc
      by false z = (eqb-false e 0 z, rw z at q)

  pub numbered_small : {x : Entry} → Some x ≡ numbered j e → Small (fields_from x)
  numbered_small q = let p : UsedAt j (e - 1) (Some _) = record { answer = (numbered_there q).1 } in used_small p

-- a used entry is one of those held
module _ {j : List ℕ} {ss : List Statement} (g : Journal j ss) where
  pub used_held : (i : ℕ) → (entry_in j i).used ≡ true → i < length ss
  unfolding entry_in
  used_held i u = by (leb most_entries i) refl (leb (length ss) i) refl
    where
      by : (a : Bool) → leb most_entries i ≡ a → (b : Bool) → leb (length ss) i ≡ b → i < length ss
      by a p false q = leb-false (length ss) i q
      by true p true q = absurd (let z : (entry_in j i).used ≡ false = rw p in clash u z)
      by false p true q =
          absurd (let h = journal_held g in
          clash u (unused_there j (length ss) _ i h.rest (leb-true (length ss) i q) (leb-false most_entries i p) (is_long (length j) (journal_long g)).least))

  pub held_used : (i : ℕ) → i < length ss → (entry_in j i).used ≡ true
  held_used i h = ap (λ x. x.used) (there_fields (journal_held g).holding i h)

module _ (j : List ℕ) (e : ℕ) {t : Bool} (p : t ≡ sound_in j) where
  pub not_sound : not t ≡ true → Err (refusal_by UnsoundJournal 0) ≡ entry_place_of j e
  unfolding entry_place_of
  not_sound h = sym (rw (← p, not-true t h))

  module _ (h : not t ≡ false) where
    among : entry_place_of j e ≡ place_among (held_of j) e
    unfolding entry_place_of
    among = rw (← p, not-false t h)

    journal : Journal j (held_of j)
    journal = sound_journal j (sym p ∙ not-false t h)

    pub entry_zero : e ≡ 0 → Err (refusal_by NoSuchEntry 0) ≡ entry_place_of j e
    entry_zero z = sym (among ∙ rw (eq-eqb e 0 z))

    module _ (some : e ≡ 0 → ⊥) {x : Fields} (q : x ≡ entry_in j (e - 1)) where
      pub entry_unused : not x.used ≡ true → Err (refusal_by NoSuchEntry 0) ≡ entry_place_of j e
      entry_unused n = by (ltb (length (held_of j)) e) refl
        where
          by : (b : Bool) → ltb (length (held_of j)) e ≡ b → Err (refusal_by NoSuchEntry 0) ≡ entry_place_of j e
          by true m = sym (among ∙ rw (ne_eqb e 0 some, m))
          by false m =
              absurd (let l = ltb-false (length (held_of j)) e m in
              clash (ap (λ y. y.used) q ∙ held_used journal (e - 1) (omega arith)) (not-true x.used n))

      pub entry_found : not x.used ≡ false → Ok (record { first = table_size + record_size * x.first; len = record_size * x.records }) ≡ entry_place_of j e
      entry_found n =
          let i = used_held journal (e - 1) (sym (ap (λ y. y.used) q) ∙ not-false x.used n) in
          let f = q ∙ there_fields (journal_held journal).holding (e - 1) i in
          let l : e ≤ length (held_of j) = omega arith in
          sym (among ∙ rw (ne_eqb e 0 some, le-ltb (length (held_of j)) e l, f))

-- what a place found means
pub record Stood (j : List ℕ) (e x n : ℕ) : Type 0 where
  pub sound : sound_in j ≡ true
  pub index : e - 1 < length (held_of j)
  pub first : x ≡ line_at (records_before (e - 1) (held_of j))
  pub len : n ≡ record_size * size_of (get_or (held_of j) (e - 1) no_statement)

pub stood : (j : List ℕ) (e : ℕ) {p : Place} → Ok p ≡ entry_place_of j e → Stood j e p.first p.len
unfolding entry_place_of
stood j e {p} q = by (sound_in j) refl (eqb e 0) refl (ltb (length (held_of j)) e) refl q
  where
    by : (a : Bool) → sound_in j ≡ a → (b : Bool) → eqb e 0 ≡ b → (c : Bool) → ltb (length (held_of j)) e ≡ c
        → Ok p
        ≡ pick a
        (pick (b || c) (Err (refusal_by NoSuchEntry 0)) (Ok (record { first = line_at (records_before (e - 1) (held_of j)); len = record_size * size_of (get_or (held_of j) (e - 1) no_statement) })))
        (Err (refusal_by UnsoundJournal 0))
        → Stood j e p.first p.len
    by false s b o c l q = absurd (let z : ◌≡◌ {A = ℕ} 0 1 = cc in omega arith)
    by true s true o c l q = absurd (let z : ◌≡◌ {A = ℕ} 0 1 = cc in omega arith)
    by true s false o true l q = absurd (let z : ◌≡◌ {A = ℕ} 0 1 = cc in omega arith)
    by true s false o false l q =
        let k = ltb-false (length (held_of j)) e l in
        let u = eqb-false e 0 o in
        let z : p ≡ record { first = line_at (records_before (e - 1) (held_of j)); len = record_size * size_of (get_or (held_of j) (e - 1) no_statement) } = cc in
        record { sound = s; index = omega arith; first = ap (λ a. a.first) z; len = ap (λ a. a.len) z }

module _ (j : List ℕ) (e : ℕ) {p : Place} (q : Ok p ≡ entry_place_of j e) where
  abbrev s : Stood j e p.first p.len
  s = stood j e q

  pub body_inside : p.first + p.len ≤ length j
  body_inside = rw (s.first, s.len) (there_inside (journal_held (sound_journal j s.sound)).holding (e - 1) s.index)

  pub body_cut : take (p.first + p.len - p.first) (drop p.first j) ≡ entry_body_of j e
  unfolding entry_body_of
  body_cut = cut p.first p.len j ∙ rw (← q, s.first, s.len) (there_lines (journal_held (sound_journal j s.sound)).holding (e - 1) s.index)

pub no_body : (j : List ℕ) (e : ℕ) {r : Refusal} → Err r ≡ entry_place_of j e → [] ≡ entry_body_of j e
unfolding entry_body_of
no_body j e p = rw (← p)
