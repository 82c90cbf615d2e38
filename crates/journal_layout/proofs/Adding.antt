-- One entry more: what the test says of it, and the statements held with it.
use mathlib.Core.Path.{◌≡◌, refl, sym, ap, ap₂, ◌∙◌}
use mathlib.Core.Bool.{Bool, true, false}
use mathlib.Core.List.{List, [], ◌∷◌, ◌++◌, append_assoc, append-nil}
use Prim.Native.Nat.{ℕ, ◌+◌, ◌*◌, ◌<◌, ◌≤◌}
use native.Mathlib.Nat.{zero-add, add-zero, add_assoc}
use native.Mathlib.Omega.{arith}
use lib.ListN.{length, take, drop, replicate, length-append, length-drop}
use lib.Seq.{take-add, take-take, drop-drop, take_at, length-take-le}
use borrow.Author.Tests.{eq-eqb}
use Rattle.zones.specs.Choice.{pick}
use Rattle.zones.specs.Copy.{same_bytes}
use Rattle.zones.specs.Pieces.{flat}
use Rattle.zones.proofs.Copies.{same_equal}
use Rattle.framing.specs.declared.Form.{Form}
use Rattle.framing.specs.Files.{All, width_of, plain}
use Rattle.grammar.specs.Statements.{Statement}
use Rattle.grammar.specs.Files.{Reads, Writable}
use Rattle.grammar.specs.Parts.{size_of}
use Rattle.grammar.proofs.Tests.{clash}
use Rattle.records.specs.July.{record_size, july, coding_of}
use Rattle.contents.specs.Heads.{record_at_of}
use Rattle.contents.proofs.Heading.{length_part}
use Rattle.bodies.specs.Bodies.{kept, body_of, opening_text, closing_text, closing_in, single, statement_of}
use Rattle.bodies.proofs.Single.{single_reads, single_body, reads_writable}
use Rattle.bodies.proofs.Ends.{opening_written, opening_whole, look_date, look_balance, closing_written, closing_whole}
use Rattle.entries.specs.Entries.{most_entries, entry_size, table_size, line_at, entry_put, entry_bytes, lines_from}
use Rattle.entries.proofs.Written.{entry_kept}
use Rattle.journal_layout.specs.Chains.{follows}
use Rattle.journal_layout.specs.Layout.{lines_of, entry_of, entries_of, bodies_of}
use Rattle.journal_layout.specs.Test.{fits_in}
use Rattle.journal_layout.proofs.Holding.{Holding, opening_length, closing_length, length_entry_of, length_body_of, judged_value}

-- a test behind a test
pub pick_both : (a b : Bool) → pick a b false ≡ true → (a ≡ true) × (b ≡ true)
pick_both true b h = (refl, h)
pick_both false b h = absurd (clash h refl)

-- ---- two rows of statements

pub lines_append : (A B : List Statement) → lines_of (A ++ B) ≡ lines_of A + lines_of B
unfolding lines_of
lines_append [] B = omega arith
lines_append (s ∷ A) B = let p = lines_append A B in omega arith

pub entries_append : (k : ℕ) (A B : List Statement) → entries_of k (A ++ B) ≡ entries_of k A ++ entries_of (k + lines_of A) B
unfolding entries_of lines_of
entries_append k [] B = rw (add-zero k)
entries_append k (s ∷ A) B =
    rw (entries_append (k + size_of s) A B, add_assoc k (size_of s) (lines_of A)) (sym (append_assoc (entry_of k s) (entries_of (k + size_of s) A) (entries_of (k + (size_of s + lines_of A)) B)))

pub bodies_append : (A B : List Statement) → bodies_of (A ++ B) ≡ bodies_of A ++ bodies_of B
unfolding bodies_of flat
bodies_append [] B = refl
bodies_append (s ∷ A) B = rw (bodies_append A B) (sym (append_assoc (body_of s) (bodies_of A) (bodies_of B)))

pub all_append : (P : Statement → Type 0) (A B : List Statement) → All P A → All P B → All P (A ++ B)
all_append P [] B a b = b
all_append P (s ∷ A) B a b = (a.0, all_append P A B a.1 b)

-- so many bytes
pub length_entries : (k : ℕ) (A : List Statement) → All (Writable july) A → length (entries_of k A) ≡ entry_size * length A
unfolding entries_of
length_entries k [] a = refl
length_entries k (s ∷ A) a =
    length-append (entry_of k s) (entries_of (k + size_of s) A) ∙ omega (arith, length_entry_of a.0 k, length_entries (k + size_of s) A a.1)

pub length_bodies : (A : List Statement) → All (Writable july) A → length (bodies_of A) ≡ record_size * lines_of A
unfolding bodies_of lines_of flat
length_bodies [] a = refl
length_bodies (s ∷ A) a = length-append (body_of s) (bodies_of A) ∙ omega (arith, length_body_of a.0, length_bodies A a.1)

-- ---- the entry that the code compares with

entry_put_value : {t : Statement} → Writable july t → (k : ℕ) (y : List ℕ) → length y ≡ entry_size
    → entry_put k (size_of t) (opening_text t) (closing_text t) y ≡ entry_of k t
unfolding entry_put entry_of
entry_put_value {t} w k y l =
    rw (eq-eqb (length y) entry_size l, eq-eqb (length (opening_text t)) record_size (opening_length w), eq-eqb (length (closing_text t)) record_size (closing_length w))

module _ {f : Form} {x : List ℕ} {t : Statement} (r : Reads (coding_of f) f x (t ∷ [])) where
  -- the same of its 01 and 07 as they stand, whatever their zeros
  pub entry_value : (k n : ℕ) (y : List ℕ) → n ≡ size_of t → length y ≡ entry_size → entry_put k n (record_at_of x 0) (closing_in f x) y ≡ entry_of k t
  unfolding kept
  entry_value k n y z l =
      sym (entry_kept k n (record_at_of x 0) (closing_in f x) y (opening_whole r) (closing_whole r))
      ∙ rw (opening_written r, closing_written r, z) (entry_put_value (reads_writable r) k y l)

-- ---- entry e behind the statements H

module _ {j : List ℕ} {H : List Statement} (g : Holding j H) (n : ℕ) (l : line_at (lines_of H) + record_size * n ≤ length j) where
  abbrev e : ℕ
  e = length H

  abbrev k : ℕ
  k = lines_of H

  abbrev x : List ℕ
  x = lines_from j k n

  -- the test, where the lines stand alone and are those of a statement
  pub fits_value : {t : Statement} → single x ≡ true → Reads (coding_of plain) plain x (t ∷ []) → n ≡ size_of t
      → fits_in j e k n ≡ pick (same_bytes (entry_bytes j e) (entry_of k t)) (follows t H) false
  unfolding fits_in
  fits_value {t} s r z = rw (s, entry_value r k n (replicate entry_size 32) z refl, judged_value r g, look_date r, look_balance r)

  -- as many lines as the statement has records
  size_there : {t : Statement} → Reads (coding_of plain) plain x (t ∷ []) → n ≡ size_of t
  unfolding width_of
  size_there {t} r =
      let a : length x ≡ record_size * n = length-take-le (record_size * n) (drop (line_at k) j) (omega (arith, length-drop (line_at k) j)) in
      omega (arith, length_part r)

  pub record Fit (t : Statement) : Type 0 where
    pub reads : Reads (coding_of plain) plain x (t ∷ [])
    pub body : x ≡ body_of t
    pub size : n ≡ size_of t
    pub entry : entry_bytes j e ≡ entry_of k t
    pub next : follows t H ≡ true

  pub fit : fits_in j e k n ≡ true → Fit (statement_of x)
  unfolding fits_in
  fit h =
      let s = pick_both (single x) _ h in
      let r = single_reads x s.0 in
      let z = size_there r in
      let p = pick_both (same_bytes (entry_bytes j e) (entry_of k (statement_of x))) (follows (statement_of x) H) (sym (fits_value s.0 r z) ∙ h) in
      record { reads = r; body = single_body x s.0; size = z; entry = same_equal _ _ p.0; next = p.1 }

  -- the statements held with it
  pub holds_next : {t : Statement} → e < most_entries → Fit t → Holding j (H ++ (t ∷ []))
  unfolding entries_of bodies_of lines_of flat
  holds_next {t} more f =
      let a = lines_append H (t ∷ []) in
      let b = length-append H (t ∷ []) in
      let z = f.size in
      let y : entry_size * length (H ++ (t ∷ [])) ≡ entry_size * e + entry_size = omega arith in
      let v : record_size * lines_of (H ++ (t ∷ [])) ≡ record_size * k + record_size * n = omega arith in
      record {
        few = omega arith;
        room = omega arith;
        most = g.most;
        alone = all_append (Writable july) H (t ∷ []) g.alone (reads_writable f.reads, tt);
        table = rw y (take-add (entry_size * e) entry_size j)
            ∙ ap₂ ◌++◌ g.table f.entry
            ∙ sym (entries_append 0 H (t ∷ []) ∙ rw (zero-add k, append-nil (entry_of k t)));
        bodies = rw v (take-add (record_size * k) (record_size * n) (drop table_size j))
            ∙ ap₂ ◌++◌ g.bodies (ap (take (record_size * n)) (drop-drop (record_size * k) table_size j) ∙ f.body)
            ∙ sym (bodies_append H (t ∷ []) ∙ ap (λ b. bodies_of H ++ b) (append-nil (body_of t)));
      }

-- the first of the statements held are held
pub holds_first : {j : List ℕ} (A B : List Statement) → Holding j (A ++ B) → Holding j A
holds_first {j} A B g =
    let a = lines_append A B in
    let b = length-append A B in
    let f = g.few in
    let r = g.room in
    record {
      few = omega arith;
      room = omega arith;
      most = g.most;
      alone = all_first A g.alone;
      table = sym (take-take (entry_size * length A) (entry_size * length (A ++ B)) j (omega arith))
          ∙ ap (take (entry_size * length A)) (g.table ∙ entries_append 0 A B)
          ∙ take_at (entries_of 0 A) (entries_of (0 + lines_of A) B) (entry_size * length A) (length_entries 0 A (all_first A g.alone));
      bodies = sym (take-take (record_size * lines_of A) (record_size * lines_of (A ++ B)) (drop table_size j) (omega arith))
          ∙ ap (take (record_size * lines_of A)) (g.bodies ∙ bodies_append A B)
          ∙ take_at (bodies_of A) (bodies_of B) (record_size * lines_of A) (length_bodies A (all_first A g.alone));
    }
  where
    all_first : (A : List Statement) → All (Writable july) (A ++ B) → All (Writable july) A
    all_first [] h = tt
    all_first (s ∷ A) h = (h.0, all_first A h.1)
