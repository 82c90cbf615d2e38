-- The code's two writes leave a statement written, and the loop leaves all of them.
use mathlib.Core.Path.{◌≡◌, refl, ap, ap₂, ◌∙◌}
use mathlib.Core.List.{List, [], ◌∷◌, ◌++◌, append-nil}
use Prim.Native.Nat.{ℕ, suc, ◌+◌, ◌-◌, ◌*◌, ◌/◌, ◌<◌, ◌≤◌}
use native.Mathlib.Nat.{add-sub_cancel_left, add-zero}
use native.Mathlib.Numerals.{add-one}
use native.Mathlib.Omega.{arith}
use lib.ListN.{length, take, drop, get_or, length-append, length-drop, drop_of_length-le}
use lib.Seq.{drop-cons, drop-drop, length-take-le, take_all}
use borrow.Rule.Slice.PartMut.{put_mid}
use Rattle.framing.specs.declared.Form.{Form}
use Rattle.framing.specs.Files.{line_end, width_of}
use Rattle.grammar.specs.Statements.{Statement}
use Rattle.grammar.specs.Files.{Reads}
use Rattle.grammar.specs.Parts.{size_of}
use Rattle.records.specs.July.{record_size, coding_of}
use Rattle.records.proofs.Theorems.{unique}
use Rattle.contents.specs.Heads.{record_at_of}
use Rattle.bodies.specs.Bodies.{body_of, closing_in}
use Rattle.bodies.specs.Answers.{PutBody}
use Rattle.bodies.proofs.Single.{reads_writable}
use Rattle.bodies.proofs.Identical.{part_count, body_put_lem}
use Rattle.entries.specs.Entries.{most_entries, entry_size, line_at}
use Rattle.entries.specs.Answers.{PutEntry}
use Rattle.journal_layout.specs.Layout.{entry_of}
use Rattle.journal_layout.proofs.Holding.{length_entry_of}
use Rattle.journal_layout.proofs.Adding.{entry_value}
use Rattle.journal.specs.declared.Bounds.{Bounds}
use Rattle.journal.specs.Plans.{part_of, parts_of, nowhere, Reading, entry_written, body_written, written, written_all, Roomy, Storable}

module _ (j : List ℕ) (e k : ℕ) {f : Form} {part : List ℕ} {s : Statement} (r : Reads (coding_of f) f part (s ∷ [])) (h : e < most_entries) (l : line_at (k + size_of s) ≤ length j) where
  pub size_is : length part / (record_size + line_end f) ≡ size_of s
  unfolding width_of
  size_is = part_count r

  -- the entry's part, as the code lends it
  abbrev a : ℕ
  a = entry_size * e

  entry_is : {n : ℕ} {o c x y : List ℕ} → n ≡ size_of s → o ≡ record_at_of part 0 → c ≡ closing_in f part → length x ≡ entry_size → PutEntry k n o c x y → y ≡ entry_of k s
  entry_is {n} {o} {c} {x} z p q m w = w.content ∙ rw (p, q) (entry_value r k n x z m)

  module _ {n : ℕ} {o c y : List ℕ} (m : n ≡ size_of s) (p : o ≡ record_at_of part 0) (q : c ≡ closing_in f part)
      (w : PutEntry k n o c (take (a + entry_size - a) (drop a j)) y) where
    abbrev j₁ : List ℕ
    j₁ = put_mid a (a + entry_size - a) j y

    entered : j₁ ≡ entry_written e k s j
    entered =
        let x : length (take (a + entry_size - a) (drop a j)) ≡ entry_size = rw (add-sub_cancel_left a entry_size) (length-take-le entry_size (drop a j) (omega (arith, length-drop a j))) in
        rw (add-sub_cancel_left a entry_size, entry_is m p q x w, drop-drop entry_size a j)

    same : length j₁ ≡ length j
    same =
        let t = length-take-le a j (omega arith) in
        ap length entered
        ∙ omega (arith, length-append (take a j) (entry_of k s ++ drop (a + entry_size) j), length-append (entry_of k s) (drop (a + entry_size) j), length_entry_of (reads_writable r) k, length-drop (a + entry_size) j)

    pub stored : {z : List ℕ} → PutBody f part (take (length j₁ - line_at k) (drop (line_at k) j₁)) z → put_mid (line_at k) (length j₁ - line_at k) j₁ z ≡ written e k s j
    unfolding written
    stored {z} v =
        let d = length-drop (line_at k) j₁ in
        let u : take (length j₁ - line_at k) (drop (line_at k) j₁) ≡ drop (line_at k) j₁ = take_all (length j₁ - line_at k) (drop (line_at k) j₁) (omega arith) in
        let b : z ≡ body_of s ++ drop (record_size * size_of s) (drop (line_at k) j₁) = body_put_lem r (rw u at v) (omega (arith, same)) in
        let x : drop (length j₁ - line_at k) (drop (line_at k) j₁) ≡ [] = drop_of_length-le (drop (line_at k) j₁) {i = length j₁ - line_at k} (omega arith) in
        rw (x, append-nil z, b, drop-drop (record_size * size_of s) (line_at k) j₁) (ap (body_written k s) entered)

-- ---- all of them

module _ {j₀ : List ℕ} {f : Form} {b : List ℕ} {xs : List Bounds} {entry line : ℕ} (w : Storable j₀ f b xs entry line) where
  -- p are written; those of Q are left
  pub record Left (p k : ℕ) (j : List ℕ) : Type 0 where
    pub Q : List Statement
    pub same : length j ≡ length j₀
    pub reads : Reading f (parts_of (drop p xs) b) Q
    pub room : Roomy (entry + p) k (length j₀) Q
    pub rest : written_all (entry + p) k Q j ≡ written_all entry line w.list j₀

  pub begins : Left 0 line j₀
  begins = record { Q = w.list; same = refl; reads = w.reads; room = rw (add-zero entry) w.room; rest = rw (add-zero entry) }

  module _ {p k : ℕ} {j : List ℕ} (g : Left p k j) where
    -- what the next one is
    pub record Next : Type 0 where
      pub s : Statement
      pub Q' : List Statement
      pub is : g.Q ≡ s ∷ Q'
      pub part : Reads (coding_of f) f (part_of (get_or xs p nowhere) b) (s ∷ [])
      pub others : Reading f (parts_of (drop (p + 1) xs) b) Q'
      pub entry_there : entry + p < most_entries
      pub lines_there : line_at (k + size_of s) ≤ length j₀
      pub room_left : Roomy (entry + (p + 1)) (k + size_of s) (length j₀) Q'

    pub next : p < length xs → Next
    next h = by g.Q refl g.room (rw (drop-cons xs p nowhere h) at g.reads)
      where
        y : entry + p + 1 ≡ entry + (p + 1)
        y = omega arith

        by : (Q : List Statement) → g.Q ≡ Q → Roomy (entry + p) k (length j₀) Q
            → Reading f (part_of (get_or xs p nowhere) b ∷ parts_of (drop (suc p) xs) b) Q → Next
        by [] e m r = absurd r
        by (s ∷ Q) e m r =
            record { s = s; Q' = Q; is = e; part = r.0; others = rw (add-one p) r.1; entry_there = m.0; lines_there = m.1; room_left = rw y at m.2 }

    -- one more is written
    pub goes_on : {n : ℕ} {j' : List ℕ} (h : p < length xs) → length j' ≡ length j → (n ≡ size_of (next h).s) → j' ≡ written (entry + p) k (next h).s j → Left (p + 1) (k + n) j'
    unfolding written_all
    goes_on {n} {j'} h l m e =
        let x = next h in
        let y : entry + (p + 1) ≡ entry + p + 1 = omega arith in
        record {
          Q = x.Q';
          same = l ∙ g.same;
          reads = x.others;
          room = rw m x.room_left;
          rest = rw (y, m, e) (rw x.is at g.rest);
        }

    -- none is left
    ends_there : length xs ≤ p → j ≡ written_all entry line w.list j₀
    unfolding written_all
    ends_there h = none g.Q (rw (drop_of_length-le xs {i = p} h) at g.reads) g.rest
      where
        none : (Q : List Statement) → Reading f [] Q → written_all (entry + p) k Q j ≡ written_all entry line w.list j₀ → j ≡ written_all entry line w.list j₀
        none [] r e = e
        none (s ∷ Q) r e = absurd r

-- the parts read as one list
reading_one : (f : Form) (hs : List (List ℕ)) (P Q : List Statement) → Reading f hs P → Reading f hs Q → P ≡ Q
reading_one f [] [] [] p q = refl
reading_one f [] [] (t ∷ Q) p q = absurd q
reading_one f [] (s ∷ P) Q p q = absurd p
reading_one f (h ∷ hs) [] Q p q = absurd p
reading_one f (h ∷ hs) (s ∷ P) [] p q = absurd q
reading_one f (h ∷ hs) (s ∷ P) (t ∷ Q) p q =
    let e = unique p.0 q.0 in
    let x : s ≡ t = cc in
    ap₂ ◌∷◌ x (reading_one f hs P Q p.1 q.1)

-- what the loop keeps
pub record Going (j₀ : List ℕ) (f : Form) (b : List ℕ) (xs : List Bounds) (entry line p k : ℕ) (j : List ℕ) : Type 0 where
  pub whole : Storable j₀ f b xs entry line
  pub left : Left whole p k j

pub all_stored : {j₀ : List ℕ} {f : Form} {b : List ℕ} {xs : List Bounds} {entry line p k : ℕ} {j : List ℕ} → Going j₀ f b xs entry line p k j → length xs ≤ p
    → (ss : List Statement) → Reading f (parts_of xs b) ss → j ≡ written_all entry line ss j₀
all_stored {j₀} {f} {b} {xs} {entry} {line} g h ss r =
    let w = g.whole in
    ends_there w g.left h ∙ ap (λ l. written_all entry line l j₀) (reading_one f (parts_of xs b) w.list ss w.reads r)
