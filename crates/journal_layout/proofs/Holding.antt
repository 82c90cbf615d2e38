-- A journal whose first entries and lines are those of some statements: what is read there is what these statements say.
use mathlib.Core.Path.{◌≡◌, refl, sym, ap, ap₂, ◌∙◌}
use mathlib.Core.Bool.{true, ◌||◌}
use mathlib.Core.List.{List, [], ◌∷◌, ◌++◌}
use Prim.Native.Nat.{ℕ, zero, suc, ◌+◌, ◌*◌, ◌<◌, ◌≤◌}
use native.Mathlib.Nat.{mul_comm, add-zero, zero-add, le_of_suc-le-suc, not-suc-le-zero}
use native.Mathlib.Omega.{arith}
use lib.ListN.{length, take, drop, get_or}
use lib.Seq.{take-take, drop-drop, take_at, drop_at}
use borrow.Author.Tests.{eq-eqb, le-leb, lt-leb}
use Rattle.zones.specs.Choice.{pick}
use Rattle.zones.specs.Pieces.{flat}
use Rattle.framing.specs.declared.Form.{Form}
use Rattle.framing.specs.Files.{All, plain}
use Rattle.grammar.specs.Record.{same_key}
use Rattle.grammar.specs.Statements.{Statement}
use Rattle.grammar.specs.Files.{Reads, Writable}
use Rattle.grammar.specs.Parts.{size_of, records_before, no_statement}
use Rattle.records.specs.July.{record_size, july, coding_of}
use Rattle.records.specs.Looks.{look_of}
use Rattle.records.specs.Tests.{same_key_in}
use Rattle.contents.specs.Heads.{record_at_of}
use Rattle.bodies.specs.Bodies.{body_of, opening_text, closing_text, same_records, closing_in}
use Rattle.bodies.proofs.Single.{body_reads, length_body, size_most}
use Rattle.bodies.proofs.Ends.{length_kept, opening_written, opening_there, opening_whole, closing_written, closing_there, closing_whole}
use Rattle.bodies.proofs.Identical.{same_identical}
use Rattle.entries.specs.Entries.{most_entries, entry_size, table_size, line_at, fields_of, entry_bytes, entry_in, lines_from, body_at}
use Rattle.entries.proofs.Written.{length_entry, entry_read}
use Rattle.journal_layout.specs.declared.Judgement.{Judgement}
use Rattle.journal_layout.specs.declared.Judgement.TheVariants.{First, After}
use Rattle.journal_layout.specs.Chains.{held_among, last_among, judgement_of}
use Rattle.journal_layout.specs.Layout.{most_lines, lines_of, entry_of, entries_of, bodies_of}
use Rattle.journal_layout.specs.Test.{later_of, held_from, last_from, judged_by}

-- the first entries are those of H, and so are the first lines
pub record Holding (j : List ℕ) (H : List Statement) : Type 0 where
  pub few : length H ≤ most_entries
  pub room : line_at (lines_of H) ≤ length j
  pub most : length j ≤ line_at most_lines
  pub alone : All (Writable july) H
  pub table : take (entry_size * length H) j ≡ entries_of 0 H
  pub bodies : take (record_size * lines_of H) (drop table_size j) ≡ bodies_of H

-- a part of the first bytes is that part of all bytes
inside_take : (a n m : ℕ) (l : List ℕ) → a + n ≤ m → take n (drop a (take m l)) ≡ take n (drop a l)
inside_take zero n m l h = take-take n m l (omega arith)
inside_take (suc a) n zero l h = absurd (omega arith)
inside_take (suc a) n (suc m) [] h = refl
inside_take (suc a) n (suc m) (x ∷ l) h = inside_take a n m l (omega arith)

-- ---- one statement's lengths

module _ {s : Statement} (w : Writable july s) where
  pub opening_length : length (opening_text s) ≡ record_size
  opening_length = let r = body_reads w in ap length (sym (opening_written r)) ∙ length_kept _ (opening_whole r)

  pub closing_length : length (closing_text s) ≡ record_size
  closing_length = let r = body_reads w in ap length (sym (closing_written r)) ∙ length_kept _ (closing_whole r)

  pub length_entry_of : (k : ℕ) → length (entry_of k s) ≡ entry_size
  unfolding entry_of
  length_entry_of k = length_entry k (size_of s) (opening_text s) (closing_text s) opening_length closing_length

  pub length_body_of : length (body_of s) ≡ record_size * size_of s
  length_body_of = length_body w ∙ mul_comm (size_of s) record_size

  -- what is read of its entry
  pub entry_of_read : (k : ℕ) → k ≤ most_lines → fields_of (entry_of k s) ≡ record { used = true; first = k; records = size_of s }
  unfolding entry_of
  entry_of_read k h =
      entry_read k (size_of s) (opening_text s) (closing_text s) opening_length closing_length (omega arith) (omega (arith, size_most w))

-- ---- some statements

-- those before one, and this one, take no more lines than all
pub before_lines : (i : ℕ) (H : List Statement) → i < length H → records_before i H + size_of (get_or H i no_statement) ≤ lines_of H
unfolding records_before lines_of
before_lines i [] h = absurd (not-suc-le-zero h)
before_lines zero (s ∷ H) h = omega arith
before_lines (suc i) (s ∷ H) h = let p = before_lines i H (le_of_suc-le-suc h) in omega arith

alone_at : (i : ℕ) (H : List Statement) → All (Writable july) H → i < length H → Writable july (get_or H i no_statement)
alone_at i [] a h = absurd (not-suc-le-zero h)
alone_at zero (s ∷ H) a h = a.0
alone_at (suc i) (s ∷ H) a h = alone_at i H a.1 (le_of_suc-le-suc h)

entries_at : (k i : ℕ) (H : List Statement) → All (Writable july) H → i < length H
    → take entry_size (drop (entry_size * i) (entries_of k H)) ≡ entry_of (k + records_before i H) (get_or H i no_statement)
unfolding entries_of records_before
entries_at k i [] a h = absurd (not-suc-le-zero h)
entries_at k zero (s ∷ H) a h =
    take_at (entry_of k s) (entries_of (k + size_of s) H) entry_size (length_entry_of a.0 k) ∙ rw (add-zero k)
entries_at k (suc i) (s ∷ H) a h =
    let z : entry_size * suc i ≡ entry_size + entry_size * i = omega arith in
    let y : k + size_of s + records_before i H ≡ k + (size_of s + records_before i H) = omega arith in
    rw (z, ← drop-drop (entry_size * i) entry_size (entry_of k s ++ entries_of (k + size_of s) H), drop_at (entry_of k s) (entries_of (k + size_of s) H) entry_size (length_entry_of a.0 k))
    (entries_at (k + size_of s) i H a.1 (le_of_suc-le-suc h) ∙ ap (λ (n : ℕ). entry_of n (get_or H i no_statement)) y)

bodies_at : (i : ℕ) (H : List Statement) → All (Writable july) H → i < length H
    → take (record_size * size_of (get_or H i no_statement)) (drop (record_size * records_before i H) (bodies_of H)) ≡ body_of (get_or H i no_statement)
unfolding bodies_of records_before flat
bodies_at i [] a h = absurd (not-suc-le-zero h)
bodies_at zero (s ∷ H) a h = take_at (body_of s) (bodies_of H) (record_size * size_of s) (length_body_of a.0)
bodies_at (suc i) (s ∷ H) a h =
    let z : record_size * (size_of s + records_before i H) ≡ record_size * size_of s + record_size * records_before i H = omega arith in
    rw (z, ← drop-drop (record_size * records_before i H) (record_size * size_of s) (body_of s ++ bodies_of H), drop_at (body_of s) (bodies_of H) (record_size * size_of s) (length_body_of a.0))
    (bodies_at i H a.1 (le_of_suc-le-suc h))

-- ---- what is read of entry i

module _ {j : List ℕ} {H : List Statement} (g : Holding j H) (i : ℕ) (h : i < length H) where
  abbrev s : Statement
  s = get_or H i no_statement

  pub there_alone : Writable july s
  there_alone = alone_at i H g.alone h

  -- its lines lie in the journal
  pub there_inside : line_at (records_before i H) + record_size * size_of s ≤ length j
  there_inside = let p = before_lines i H h in let r = g.room in omega arith

  pub there_entry : entry_bytes j i ≡ entry_of (records_before i H) s
  there_entry =
      sym (inside_take (entry_size * i) entry_size (entry_size * length H) j (omega arith))
      ∙ ap (λ l. take entry_size (drop (entry_size * i) l)) g.table
      ∙ entries_at 0 i H g.alone h
      ∙ ap (λ (n : ℕ). entry_of n s) (zero-add (records_before i H))

  pub there_lines : lines_from j (records_before i H) (size_of s) ≡ body_of s
  there_lines =
      let p = before_lines i H h in
      ap (take (record_size * size_of s)) (sym (drop-drop (record_size * records_before i H) table_size j))
      ∙ sym (inside_take (record_size * records_before i H) (record_size * size_of s) (record_size * lines_of H) (drop table_size j) (omega arith))
      ∙ ap (λ l. take (record_size * size_of s) (drop (record_size * records_before i H) l)) g.bodies
      ∙ bodies_at i H g.alone h

  pub there_fields : entry_in j i ≡ record { used = true; first = records_before i H; records = size_of s }
  unfolding entry_in
  there_fields =
      let f = g.few in
      let r = g.room in
      let m = g.most in
      let p = before_lines i H h in
      rw (lt-leb most_entries i (omega arith), there_entry) (entry_of_read there_alone (records_before i H) (omega arith))

  pub there_body : body_at j i ≡ body_of s
  unfolding body_at
  there_body = rw (there_fields, le-leb (line_at (records_before i H) + record_size * size_of s) (length j) there_inside) there_lines

-- ---- the judgement

module _ {f : Form} {x : List ℕ} {t : Statement} (r : Reads (coding_of f) f x (t ∷ [])) where
  -- one statement of its account, or of another
  pub later_value : (last : Judgement) {e : Form} {h : List ℕ} {s : Statement} → Reads (coding_of e) e h (s ∷ [])
      → later_of last e h x ≡ pick (same_key s.key t.key) (After s.new_date s.new_balance) last
  unfolding later_of same_key_in look_of
  later_value last {e} {h} {s} q =
      rw (
        eq-eqb (length (record_at_of h 0)) record_size (opening_whole q),
        eq-eqb (length (record_at_of x 0)) record_size (opening_whole r),
        eq-eqb (length (closing_in e h)) record_size (closing_whole q),
        (opening_there q).key,
        (opening_there r).key,
        (closing_there q).day,
        (closing_there q).amount,
      )

  module _ (j : List ℕ) where
    -- from entry e on stand these statements
    abbrev pub Standing : ℕ → List Statement → Type 0
    Standing e B = (i : ℕ) → i < length B → body_at j (e + i) ≡ body_of (get_or B i no_statement)

    next_standing : (e : ℕ) (b : Statement) (B : List Statement) → Standing e (b ∷ B) → Standing (e + 1) B
    next_standing e b B p i h = let z : e + 1 + i ≡ e + suc i = omega arith in rw z (p (suc i) (omega arith))

    first_standing : (e : ℕ) (b : Statement) (B : List Statement) → Standing e (b ∷ B) → body_at j e ≡ body_of b
    first_standing e b B p = rw (add-zero e) at (p 0 (omega arith))

    held_value : (e : ℕ) (B : List Statement) → All (Writable july) B → Standing e B → held_from (length B) e j f x ≡ held_among t B
    unfolding held_from held_among
    held_value e [] a p = refl
    held_value e (b ∷ B) a p =
        ap₂ ◌||◌ (ap (λ v. same_records plain v f x) (first_standing e b B p) ∙ same_identical (body_reads a.0) r)
        (held_value (e + 1) B a.1 (next_standing e b B p))

    last_value : (e : ℕ) (last : Judgement) (B : List Statement) → All (Writable july) B → Standing e B → last_from (length B) e last j x ≡ last_among t.key last B
    unfolding last_from last_among
    last_value e last [] a p = refl
    last_value e last (b ∷ B) a p =
        ap (λ l. last_from (length B) (e + 1) l j x) (ap (λ v. later_of last plain v x) (first_standing e b B p) ∙ later_value last (body_reads a.0))
        ∙ last_value (e + 1) _ B a.1 (next_standing e b B p)

  -- the entries judge as the statements do
  pub judged_value : {j : List ℕ} {H : List Statement} → Holding j H → judged_by j (length H) f x ≡ judgement_of t H
  unfolding judged_by judgement_of
  judged_value {j} {H} g =
      let p : Standing j 0 H = λ i h. rw (zero-add i) (there_body g i h) in
      rw (held_value j 0 H g.alone p, last_value j 0 First H g.alone p)
