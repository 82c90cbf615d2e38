-- The first unused entry and the first line behind the bodies: the loop, and what they are in a sound journal.
use mathlib.Core.Path.{◌≡◌, refl, sym, ap, ◌∙◌}
use mathlib.Core.Bool.{Bool, true, false}
use mathlib.Core.List.{List, [], ◌∷◌, append-nil}
use Prim.Native.Nat.{ℕ, zero, suc, ◌+◌, ◌-◌, ◌<◌, ◌≤◌}
use native.Mathlib.Numerals.{add-one}
use native.Mathlib.Omega.{arith}
use lib.Dec.{eqb}
use lib.ListN.{length}
use borrow.Author.Tests.{eq-eqb, ne_eqb, eqb-true, eqb-false}
use Rattle.std.specs.Option.{MatchOption, unwrap_or, is_none}
use Rattle.std.specs.declared.option.Option.{Option}
use Rattle.std.specs.declared.option.Option.TheVariants.{Some, None}
use Rattle.zones.specs.Choice.{pick}
use Rattle.grammar.specs.Statements.{Statement}
use Rattle.grammar.specs.Parts.{records_before}
use Rattle.grammar.proofs.Tests.{clash}
use Rattle.readers.proofs.Rows.{before_next}
use Rattle.entries.specs.declared.Entry.{Entry}
use Rattle.entries.proofs.Found.{used_found, none_found}
use Rattle.entries.specs.Entries.{Fields, used_entry, most_entries, entry_in}
use Rattle.journal_layout.specs.declared.Free.{Free}
use Rattle.journal_layout.specs.Layout.{lines_of, Journal}
use Rattle.journal_layout.specs.Test.{numbered, unused_from, line_behind, free_in}
use Rattle.journal_layout.proofs.Holding.{there_fields}
use Rattle.journal_layout.proofs.Exact.{lines_before, journal_held}
use Rattle.journal_layout.proofs.Places.{numbered_there, used_held, held_used}

module _ (j : List ℕ) where
  -- the entries before the i-th are used, and it is not, or there is none
  pub unused_at : (m e i : ℕ) → e ≤ i → i ≤ e + m → ((k : ℕ) → e ≤ k → k < i → (entry_in j k).used ≡ true) → (i < e + m → (entry_in j i).used ≡ false)
      → i ≡ unused_from m e j
  unfolding unused_from
  unused_at zero e i a b before here = omega arith
  unused_at (suc m) e i a b before here = by (eqb i e) refl (λ x. unused_at m (e + 1) i x (omega arith) (λ k p. before k (omega arith)) (λ p. here (omega arith)))
    where
      by : (t : Bool) → eqb i e ≡ t → (e + 1 ≤ i → i ≡ unused_from m (e + 1) j) → i ≡ pick (entry_in j e).used (unused_from m (e + 1) j) e
      by true q next = let y = eqb-true i e q in rw (rw y at (here (omega arith))) y
      by false q next = let n = eqb-false i e q in rw (before e (omega arith) (omega arith)) (next (omega arith))

  -- as the code finds it
  is_used : (k : ℕ) → is_none (used_entry (entry_in j k)) ≡ false → (entry_in j k).used ≡ true
  is_used k = by (entry_in j k).used
    where
      by : (t : Bool) → is_none (used_entry (record { used = t; first = (entry_in j k).first; records = (entry_in j k).records })) ≡ false → t ≡ true
      by true h = refl
      by false h = cc

  is_unused : (k : ℕ) → is_none (used_entry (entry_in j k)) ≡ true → (entry_in j k).used ≡ false
  is_unused k = by (entry_in j k).used
    where
      by : (t : Bool) → is_none (used_entry (record { used = t; first = (entry_in j k).first; records = (entry_in j k).records })) ≡ true → t ≡ false
      by true h = cc
      by false h = refl

  pub found : (r : Option ℕ)
      → MatchOption r ((k : ℕ) → 0 ≤ k → k < most_entries → is_none (used_entry (entry_in j k)) ≡ false)
      (λ i. (0 ≤ i) × (i < most_entries) × (is_none (used_entry (entry_in j i)) ≡ true) × ((k : ℕ) → 0 ≤ k → k < i → is_none (used_entry (entry_in j k)) ≡ false))
      → unwrap_or r most_entries ≡ unused_from most_entries 0 j
  found None all = unused_at most_entries 0 most_entries (omega arith) (omega arith) (λ k a b. is_used k (all k a b)) (λ h. absurd (omega arith))
  found (Some i) h = unused_at most_entries 0 i (omega arith) (omega arith) (λ k a b. is_used k (h.3 k a b)) (λ _. is_unused i h.2)

  -- each before the first unused one is used
  used_under : (m e k : ℕ) → e ≤ k → k < unused_from m e j → (entry_in j k).used ≡ true
  unfolding unused_from
  used_under zero e k a b = absurd (omega arith)
  used_under (suc m) e k a b = by (entry_in j e).used refl b (used_under m (e + 1) k)
    where
      by : (t : Bool) → (entry_in j e).used ≡ t → k < pick t (unused_from m (e + 1) j) e → (e + 1 ≤ k → k < unused_from m (e + 1) j → (entry_in j k).used ≡ true) → (entry_in j k).used ≡ true
      by false u l next = absurd (omega arith)
      by true u l next = is (eqb k e) refl
        where
          is : (t : Bool) → eqb k e ≡ t → (entry_in j k).used ≡ true
          is true q = rw (eqb-true k e q) u
          is false q = let n = eqb-false k e q in next (omega arith) l

  -- the line, at the code's returns
  module _ {e : ℕ} (p : e ≡ unused_from most_entries 0 j) where
    -- the entry before it is used
    pub used_before : (i : ℕ) → e ≡ i + 1 → (entry_in j i).used ≡ true
    used_before i h = used_under most_entries 0 i (omega arith) (omega (arith, p))

    pub free_first : e ≡ 0 → ◌≡◌ {A = Free} (record { entry = e; line = 0 }) (free_in j)
    unfolding free_in
    free_first h = rw (← p, eq-eqb e 0 h)

    pub free_behind : {x : Fields} → (e ≡ 0 → ⊥) → x ≡ entry_in j (e - 1) → ◌≡◌ {A = Free} (record { entry = e; line = x.first + x.records }) (free_in j)
    unfolding free_in
    free_behind h q = rw (q, ← p, ne_eqb e 0 h)

    pub free_numbered : {x : Entry} → Some x ≡ numbered j e → ◌≡◌ {A = Free} (record { entry = e; line = x.first + x.records }) (free_in j)
    free_numbered q = let n = numbered_there j e q in free_behind n.0 (used_found n.1)

    pub free_none : None ≡ numbered j e → ◌≡◌ {A = Free} (record { entry = e; line = 0 }) (free_in j)
    free_none q = by (eqb e 0) refl
      where
        by : (t : Bool) → eqb e 0 ≡ t → ◌≡◌ {A = Free} (record { entry = e; line = 0 }) (free_in j)
        by true z = free_first (eqb-true e 0 z)
        by false z =
            let n = eqb-false e 0 z in
            absurd (clash (used_before (e - 1) (omega arith)) (none_found (entry_in j (e - 1)) (rw z at q)))

-- in a sound journal: behind the last statement
module _ {j : List ℕ} {ss : List Statement} (g : Journal j ss) where
  unused_is : (m e : ℕ) → e + m ≡ most_entries → e ≤ length ss → unused_from m e j ≡ length ss
  unfolding unused_from
  unused_is zero e h l = let f = g.kept.few in omega arith
  unused_is (suc m) e h l = by (entry_in j e).used refl (unused_is m (e + 1) (omega arith))
    where
      by : (t : Bool) → (entry_in j e).used ≡ t → (e + 1 ≤ length ss → unused_from m (e + 1) j ≡ length ss) → pick t (unused_from m (e + 1) j) e ≡ length ss
      by true u next = next (let i = used_held g e u in omega arith)
      by false u next = is (eqb e (length ss)) refl
        where
          is : (t : Bool) → eqb e (length ss) ≡ t → e ≡ length ss
          is true q = eqb-true e (length ss) q
          is false q = absurd (let n = eqb-false e (length ss) q in clash (held_used g e (omega arith)) u)

  all_lines : records_before (length ss) ss ≡ lines_of ss
  all_lines = rw (append-nil ss) at (lines_before ss [])

  line_is : (n : ℕ) → length ss ≡ n → line_behind j n ≡ lines_of ss
  unfolding lines_of
  line_is zero h = none ss h
    where
      none : (ss : List Statement) → length ss ≡ 0 → 0 ≡ lines_of ss
      none [] e = refl
      none (s ∷ ss) e = absurd (omega arith)
  line_is (suc n) h =
      let i : n < length ss = omega arith in
      let z : suc n - 1 ≡ n = omega arith in
      rw (ne_eqb (suc n) 0 (omega arith), z, there_fields (journal_held g).holding n i)
      (sym (before_next n ss i) ∙ ap (λ (m : ℕ). records_before m ss) (add-one n ∙ sym h) ∙ all_lines)

  pub free_is : free_in j ≡ record { entry = length ss; line = lines_of ss }
  unfolding free_in
  free_is = let u = unused_is most_entries 0 refl (omega arith) in rw (u, line_is (length ss) refl)
