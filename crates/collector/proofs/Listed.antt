-- In a sound journal an entry listed is the entry: the same number, and the row of its statement.
use mathlib.Core.Path.{◌≡◌, refl, ap, ◌∙◌}
use mathlib.Core.Bool.{true}
use mathlib.Core.List.{List, ◌++◌}
use Prim.Native.Nat.{ℕ, ◌-◌, ◌*◌, ◌≤◌}
use native.Mathlib.Omega.{arith}
use lib.ListN.{length, drop, get_or}
use borrow.Author.Tests.{le-ltb, ne_eqb}
use Rattle.grammar.specs.Parts.{size_of, records_before, no_statement}
use Rattle.records.specs.July.{record_size}
use Rattle.std.specs.Prelude.{Result, Ok, Err}
use Rattle.framing.specs.declared.refusals.Refusal.{Refusal}
use Rattle.readers.specs.declared.Place.{Place}
use Rattle.readers.specs.Answers.{paper_place}
use Rattle.entries.specs.Entries.{line_at, entry_bytes, row_size, row_of}
use Rattle.journal_layout.specs.Layout.{row_for}
use Rattle.journal_layout.specs.Test.{sound_in, held_of, entry_place_of, listed_place_of}
use Rattle.journal_layout.proofs.Listing.{listed_sound, listed_row}
use Rattle.collector.specs.Packing.{packed_entry}
use Rattle.collector.specs.Answers.{listed_by, listed_answer, content_by, EntryNumber, ListedNumber}

module _ (j : List ℕ) (e : ℕ) (row : List ℕ) (h : sound_in j ≡ true) (l : row_size ≤ length row) where
  roomy : (r : Result Place Refusal) → listed_by r (length row) ≡ r
  roomy (Ok p) = rw (le-ltb (length row) row_size l)
  roomy (Err e) = refl

  as_entry : listed_answer j e row ≡ entry_place_of j e
  as_entry = roomy (listed_place_of j e) ∙ listed_sound j e h

  pub listed_entry : {n : ℕ} {row' : List ℕ} → ListedNumber j e row n row' → EntryNumber j e n
  listed_entry g = record { answer = g.answer ∙ ap (λ a. packed_entry (paper_place a)) as_entry }

  pub listed_says : {n : ℕ} {row' : List ℕ} → 1 ≤ e → e ≤ length (held_of j) → ListedNumber j e row n row'
      → row' ≡ row_for (get_or (held_of j) (e - 1) no_statement) ++ drop row_size row
  unfolding entry_place_of
  listed_says a b g =
      let ss = held_of j in
      let z : entry_place_of j e ≡ Ok (record { first = line_at (records_before (e - 1) ss); len = record_size * size_of (get_or ss (e - 1) no_statement) }) =
      rw (h, ne_eqb e 0 (λ n. omega arith), le-ltb (length ss) e b) in
      g.content ∙ ap (λ r. content_by r (row_of (entry_bytes j (e - 1))) row) (as_entry ∙ z) ∙ ap (λ x. x ++ drop row_size row) (listed_row j h e a b)
