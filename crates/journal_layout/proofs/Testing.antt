-- The test for a sound journal in the code: one law for each return, and what the loop over the entries keeps.
use mathlib.Core.Path.{◌≡◌, sym, ◌∙◌}
use mathlib.Core.Bool.{Bool, true, false, not, ◌&&◌}
use mathlib.Core.List.{List}
use Prim.Native.Nat.{ℕ, suc, ◌+◌, ◌-◌, ◌*◌, ◌%◌, ◌<◌, ◌≤◌}
use native.Mathlib.Nat.{add-sub_cancel_left}
use native.Mathlib.Omega.{arith}
use lib.Dec.{leb}
use lib.ListN.{length, take, drop, replicate, length-drop}
use lib.Seq.{take_all}
use mir.Syntax.{w64}
use mir.Val.{to_z, of_z}
use borrow.Author.Tests.{le-leb, lt-leb, leb-true, eqb-true, not-true, not-false}
use Rattle.framing.specs.Files.{plain}
use Rattle.zones.specs.Choice.{pick}
use Rattle.zones.specs.Class.{blank, all}
use Rattle.zones.specs.Copy.{same_bytes}
use Rattle.zones.proofs.Bools.{and_left, and_right}
use Rattle.amounts.proofs.Whole.{back}
use Rattle.records.specs.July.{record_size}
use Rattle.records.specs.declared.Look.{Look}
use Rattle.records.specs.Looks.{look_of}
use Rattle.contents.specs.Heads.{record_at_of}
use Rattle.statements.proofs.Judging.{look_small}
use Rattle.bodies.specs.Bodies.{single, closing_in}
use Rattle.entries.specs.Entries.{Fields, most_entries, entry_size, table_size, line_at, entry_put, entry_bytes, entry_in, lines_from}
use Rattle.journal_layout.specs.declared.Judgement.{Judgement}
use Rattle.std.specs.Prelude.{Ok, Err}
use Rattle.framing.specs.Refusals.{refusal_by}
use Rattle.framing.specs.declared.refusals.Reason.TheVariants.{UnsoundJournal}
use Rattle.journal_layout.specs.Chains.{follows_by}
use Rattle.journal_layout.specs.Layout.{most_lines, is_length, opened_of}
use Rattle.journal_layout.specs.Test.{judged_by, fits_in, rest_blank, walk_in, sound_in}
use Rattle.journal_layout.specs.Answers.{Opens}

-- the bytes between two places, as the code cuts them
pub cut : (a n : ℕ) (l : List ℕ) → take (a + n - a) (drop a l) ≡ take n (drop a l)
cut a n l = rw (add-sub_cancel_left a n)

-- and to the end
pub cut_tail : (a : ℕ) (l : List ℕ) → take (length l - a) (drop a l) ≡ drop a l
cut_tail a l = take_all (length l - a) (drop a l) (omega (arith, length-drop a l))

-- one entry
module _ (j : List ℕ) (e k n : ℕ) {s : List ℕ} (p : s ≡ lines_from j k n) {t : Bool} (q : t ≡ single s) where
  pub not_single : not t ≡ true → false ≡ fits_in j e k n
  unfolding fits_in
  not_single h = sym (rw (← p, ← q, not-true t h))

  module _ (h : not t ≡ false) {o c x : List ℕ} (f : o ≡ record_at_of s 0) (g : c ≡ closing_in plain s) (b : x ≡ entry_bytes j e)
      {u : Bool} (m : u ≡ same_bytes x (entry_put k n o c (replicate entry_size 32))) where
    pub other_entry : not u ≡ true → false ≡ fits_in j e k n
    unfolding fits_in
    other_entry y = sym (rw (← p, ← q, not-false t h, ← f, ← g, ← b, ← m, not-true u y))

    pub entry_fits : {w : Judgement} {l : Look} {r : Bool} → not u ≡ false → l ≡ look_of o → w ≡ judged_by j e plain s
        → r ≡ follows_by w l.day (to_z w64 (of_z w64 l.amount)) → r ≡ fits_in j e k n
    unfolding fits_in
    entry_fits {w} {l} y z a d =
        let i = look_small o z in
        d ∙ rw (back l.amount (omega arith)) (sym (rw (← p, ← q, not-false t h, ← f, ← g, ← b, ← m, not-false u y, ← z, ← a)))

-- blanks to the end of the table, and of the lines
pub rest_tested : (j : List ℕ) (e k : ℕ) {a b : Bool} → a ≡ all blank (take (table_size - entry_size * e) (drop (entry_size * e) j))
    → b ≡ all blank (take (length j - line_at k) (drop (line_at k) j)) → (a && b) ≡ rest_blank j e k
unfolding rest_blank
rest_tested j e k p q = rw (p, q, cut_tail (line_at k) j)

module _ (j : List ℕ) where
  -- what is answered from here on is the whole answer
  pub record Walking (e k : ℕ) : Type 0 where
    pub inside : e ≤ most_entries
    pub line : line_at k ≤ length j
    pub rest : walk_in (most_entries - e) e k j ≡ walk_in most_entries 0 0 j

  module _ {e k : ℕ} (g : Walking e k) where
    pub ends : {t : Bool} → most_entries ≤ e → t ≡ rest_blank j most_entries k → t ≡ walk_in most_entries 0 0 j
    unfolding walk_in
    ends h p =
        let i = g.inside in
        let z : e ≡ most_entries = omega arith in
        p ∙ rw z at g.rest

    module _ (more : e < most_entries) {x : Fields} (p : x ≡ entry_in j e) where
      step : pick x.used
          (pick (leb (line_at k + record_size * x.records) (length j))
          (pick (fits_in j e k x.records) (walk_in (most_entries - (e + 1)) (e + 1) (k + x.records) j) false)
          false)
          (rest_blank j e k)
          ≡ walk_in most_entries 0 0 j
      unfolding walk_in
      step =
          let z : most_entries - e ≡ suc (most_entries - (e + 1)) = omega arith in
          rw p (rw z at g.rest)

      pub unused : {t : Bool} → not x.used ≡ true → t ≡ rest_blank j e k → t ≡ walk_in most_entries 0 0 j
      unused h q = q ∙ rw (not-true x.used h) at step

      module _ (h : not x.used ≡ false) where
        pub no_lines : length j < line_at k + record_size * x.records → false ≡ walk_in most_entries 0 0 j
        no_lines l = rw (not-false x.used h, lt-leb (line_at k + record_size * x.records) (length j) l) at step

        module _ (l : line_at k + record_size * x.records ≤ length j) {t : Bool} (q : t ≡ fits_in j e k x.records) where
          pub no_fit : not t ≡ true → false ≡ walk_in most_entries 0 0 j
          no_fit y = rw (not-false x.used h, le-leb (line_at k + record_size * x.records) (length j) l, ← q, not-true t y) at step

          pub goes_on : not t ≡ false → Walking (e + 1) (k + x.records)
          goes_on y =
              record {
                inside = omega arith;
                line = omega arith;
                rest = rw (not-false x.used h, le-leb (line_at k + record_size * x.records) (length j) l, ← q, not-false t y) at step;
              }

-- a length that a journal has, in numbers
pub record Long (n : ℕ) : Type 0 where
  pub least : table_size ≤ n
  pub most : n ≤ line_at most_lines
  pub even : n % record_size ≡ 0

pub is_long : (n : ℕ) → is_length n ≡ true → Long n
unfolding is_length
is_long n h =
    let p = and_left (leb table_size n && leb n (line_at most_lines)) _ h in
    record {
      least = leb-true table_size n (and_left (leb table_size n) _ p);
      most = leb-true n (line_at most_lines) (and_right (leb table_size n) _ p);
      even = eqb-true (n % record_size) 0 (and_right (leb table_size n && leb n (line_at most_lines)) _ h);
    }

-- the journal whole
module _ (j : List ℕ) {t : Bool} (p : t ≡ is_length (length j)) where
  pub not_length : not t ≡ true → false ≡ sound_in j
  unfolding sound_in
  not_length h = sym (rw (← p, not-true t h))

  pub right_length : not t ≡ false → Long (length j)
  right_length h = is_long (length j) (sym p ∙ not-false t h)

  pub walked : {r : Bool} → not t ≡ false → r ≡ walk_in most_entries 0 0 j → r ≡ sound_in j
  unfolding sound_in
  walked h q = q ∙ sym (rw (← p, not-false t h))

  -- opening
  pub kept_closed : not t ≡ true → Opens j (Err (refusal_by UnsoundJournal 0)) j
  unfolding opened_of
  kept_closed h = record { answer = sym (rw (← p, not-true t h)); content = sym (rw (← p, not-true t h)) }

  pub blanked : {j' : List ℕ} → not t ≡ false → j' ≡ replicate (length j) 32 → Opens j (Ok tt) j'
  unfolding opened_of
  blanked h e = record { answer = sym (rw (← p, not-false t h)); content = e ∙ sym (rw (← p, not-false t h)) }
