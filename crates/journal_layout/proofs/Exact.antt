-- THE SOUND TEST: it is passed exactly by the layouts of lists that a journal can hold, and the list is what is read back.
use mathlib.Core.Path.{◌≡◌, refl, sym, ap, ap₂, ◌∙◌}
use mathlib.Core.Bool.{Bool, true, false}
use mathlib.Core.Logic.{◌↔◌}
use mathlib.Core.List.{List, [], ◌∷◌, ◌++◌, append_assoc, append-nil}
use Prim.Native.Nat.{ℕ, zero, suc, ◌+◌, ◌-◌, ◌*◌, ◌/◌, ◌%◌, ◌<◌, ◌≤◌}
use native.Mathlib.Nat.{div-add-mod'}
use native.Mathlib.Omega.{arith}
use lib.Dec.{leb}
use lib.ListN.{length, take, drop, get_or, replicate, length-append, length-drop, length-replicate, take-append-drop}
use lib.Seq.{take-add, take_at, drop_at, drop-drop, take-take, take-nil, length-take-le, get_or-take, get_or-drop}
use borrow.Author.Tests.{eq-eqb, le-leb, lt-leb, leb-true}
use Rattle.framing.specs.Files.{plain}
use Rattle.zones.specs.Choice.{pick}
use Rattle.zones.specs.Class.{blank, in_class, all}
use Rattle.zones.specs.Pieces.{flat}
use Rattle.zones.proofs.Bools.{and_left, and_right, both}
use Rattle.zones.proofs.Copies.{equal_same}
use Rattle.zones.proofs.Every.{every_at, in_range, blanks_are, are_blanks}
use Rattle.grammar.specs.Statements.{Statement}
use Rattle.grammar.specs.Files.{pieces, Reads, Writable}
use Rattle.grammar.specs.Parts.{size_of, records_before, no_statement}
use Rattle.records.specs.July.{record_size, july, no_debit_zero, coding_of}
use Rattle.bodies.specs.Bodies.{body_of, single, statement_of}
use Rattle.bodies.proofs.Single.{body_reads, body_own, body_single, reads_statement}
use Rattle.entries.specs.Entries.{most_entries, entry_size, table_size, line_at, entry_bytes, entry_in, lines_from, body_at}
use Rattle.entries.proofs.Written.{blank_unused}
use Rattle.journal_layout.specs.Chains.{of_account}
use Rattle.journal_layout.specs.Layout.{most_lines, is_length, lines_of, entry_of, entries_of, bodies_of, journal_of, Journal}
use Rattle.journal_layout.specs.Test.{fits_in, rest_blank, walk_in, sound_in, read_from, held_of}
use Rattle.journal_layout.proofs.Testing.{Long, is_long}
use Rattle.journal_layout.proofs.Chain.{Row, row_snoc, row_distinct, row_chained, row_of}
use Rattle.journal_layout.proofs.Holding.{Holding, there_entry, there_lines, there_fields, there_body, there_inside, there_alone}
use Rattle.journal_layout.proofs.Adding.{pick_both, lines_append, length_entries, length_bodies, fits_value, fit, holds_next, holds_first}

-- the last of the first bytes
drop_take : (a m : ℕ) (l : List ℕ) → drop a (take m l) ≡ take (m - a) (drop a l)
drop_take zero m l = let z : m - 0 ≡ m = omega arith in rw z
drop_take (suc a) zero l = let z : 0 - suc a ≡ 0 = omega arith in rw z
drop_take (suc a) (suc m) [] = sym (take-nil (suc m - suc a))
drop_take (suc a) (suc m) (x ∷ l) = let z : suc m - suc a ≡ m - a = omega arith in rw z (drop_take a m l)

-- what a journal holds: its first entries and lines are those of ss, each new and following, and the rest is blank
pub record Held (j : List ℕ) (ss : List Statement) : Type 0 where
  pub holding : Holding j ss
  pub row : Row [] ss
  pub rest : rest_blank j (length ss) (lines_of ss) ≡ true

-- ---- from the test to the list

module _ {j : List ℕ} where
  -- the next entry is used: its lines are there, it fits, and the walk goes on behind it
  used_holds : (m : ℕ) (H : List Statement) → Holding j H → Row [] H → length H + suc m ≡ most_entries → (n : ℕ)
      → pick (leb (line_at (lines_of H) + record_size * n) (length j)) (pick (fits_in j (length H) (lines_of H) n) (walk_in m (length H + 1) (lines_of H + n) j) false) false ≡ true
      → ((t : Statement) → Holding j (H ++ (t ∷ [])) → Row [] (H ++ (t ∷ [])) → length (H ++ (t ∷ [])) + m ≡ most_entries
      → walk_in m (length (H ++ (t ∷ []))) (lines_of (H ++ (t ∷ []))) j ≡ true → (ss : List Statement) × Held j ss)
      → (ss : List Statement) × Held j ss
  unfolding lines_of
  used_holds m H g r e n q next =
      let a = pick_both (leb (line_at (lines_of H) + record_size * n) (length j)) _ q in
      let b = pick_both (fits_in j (length H) (lines_of H) n) _ a.1 in
      let l = leb-true (line_at (lines_of H) + record_size * n) (length j) a.0 in
      let t = statement_of (lines_from j (lines_of H) n) in
      let f = fit g n l b.0 in
      let z = f.size in
      let c : length (H ++ (t ∷ [])) ≡ length H + 1 = length-append H (t ∷ []) in
      let d : lines_of (H ++ (t ∷ [])) ≡ lines_of H + n = lines_append H (t ∷ []) ∙ omega arith in
      next t (holds_next g n l (omega arith) f) (row_snoc [] H t r f.next) (omega arith) (ap₂ (λ (x y : ℕ). walk_in m x y j) c d ∙ b.1)

  walk_holds : (m : ℕ) (H : List Statement) → Holding j H → Row [] H → length H + m ≡ most_entries → walk_in m (length H) (lines_of H) j ≡ true
      → (ss : List Statement) × Held j ss
  unfolding walk_in
  walk_holds zero H g r e w = (H, record { holding = g; row = r; rest = w })
  walk_holds (suc m) H g r e w = by (entry_in j (length H)).used w (λ t q p. walk_holds m (H ++ (t ∷ [])) q p)
    where
      by : (u : Bool)
          → pick u
          (pick (leb (line_at (lines_of H) + record_size * (entry_in j (length H)).records) (length j))
          (pick (fits_in j (length H) (lines_of H) (entry_in j (length H)).records) (walk_in m (length H + 1) (lines_of H + (entry_in j (length H)).records) j) false)
          false)
          (rest_blank j (length H) (lines_of H))
          ≡ true
          → ((t : Statement) → Holding j (H ++ (t ∷ [])) → Row [] (H ++ (t ∷ [])) → length (H ++ (t ∷ [])) + m ≡ most_entries
          → walk_in m (length (H ++ (t ∷ []))) (lines_of (H ++ (t ∷ []))) j ≡ true → (ss : List Statement) × Held j ss)
          → (ss : List Statement) × Held j ss
      by false q next = (H, record { holding = g; row = r; rest = q })
      by true q next = used_holds m H g r e (entry_in j (length H)).records q next

  pub sound_holds : sound_in j ≡ true → (ss : List Statement) × Held j ss
  unfolding sound_in lines_of entries_of bodies_of flat
  sound_holds h =
      let p = pick_both (is_length (length j)) _ h in
      let l = is_long (length j) p.0 in
      walk_holds most_entries [] (record { few = omega arith; room = l.least; most = l.most; alone = tt; table = refl; bodies = refl }) tt refl p.1

-- ---- from the list to the layout and back

-- a journal's length, in lines
abbrev line_count : List ℕ → ℕ
line_count j = (length j - table_size) / record_size

line_count_lem : (j : List ℕ) → Long (length j) → length j ≡ table_size + record_size * line_count j
line_count_lem j l =
    let a = l.least in
    let e = l.even in
    omega (arith, div-add-mod' (length j - table_size) record_size)

module _ {j : List ℕ} {ss : List Statement} (l : Long (length j)) (h : Held j ss) where
  -- the table: the entries, and blanks
  table_layout : take table_size j ≡ entries_of 0 ss ++ replicate (entry_size * (most_entries - length ss)) 32
  unfolding rest_blank
  table_layout =
      let e = length ss in
      let f = h.holding.few in
      let a = l.least in
      let r = take (table_size - entry_size * e) (drop (entry_size * e) j) in
      let b = blanks_are r (and_left (all blank r) _ h.rest) in
      let z : table_size ≡ entry_size * e + (table_size - entry_size * e) = omega arith in
      let n : length r ≡ entry_size * (most_entries - e) = length-take-le (table_size - entry_size * e) (drop (entry_size * e) j) (omega (arith, length-drop (entry_size * e) j)) ∙ omega arith in
      ap (λ (m : ℕ). take m j) z ∙ take-add (entry_size * e) (table_size - entry_size * e) j
      ∙ ap₂ ◌++◌ h.holding.table (b ∙ ap (λ (m : ℕ). replicate m 32) n)

  -- the lines: the bodies, and blanks
  lines_layout : drop table_size j ≡ bodies_of ss ++ replicate (record_size * (line_count j - lines_of ss)) 32
  unfolding rest_blank
  lines_layout =
      let k = lines_of ss in
      let o = h.holding.room in
      let r = drop (line_at k) j in
      let b = blanks_are r (and_right (all blank (take (table_size - entry_size * length ss) (drop (entry_size * length ss) j))) _ h.rest) in
      let n : length r ≡ record_size * (line_count j - k) = length-drop (line_at k) j ∙ omega (arith, line_count_lem j l) in
      sym (take-append-drop (record_size * k) (drop table_size j))
      ∙ ap₂ ◌++◌ h.holding.bodies (drop-drop (record_size * k) table_size j ∙ b ∙ ap (λ (m : ℕ). replicate m 32) n)

  pub held_journal : Journal j ss
  unfolding journal_of of_account
  held_journal =
      let m = l.most in
      let o = h.holding.room in
      record {
        lines = line_count j;
        most = omega (arith, line_count_lem j l);
        layout = sym (take-append-drop table_size j) ∙ ap₂ ◌++◌ table_layout lines_layout;
        kept =
            record {
              few = h.holding.few;
              room = omega (arith, line_count_lem j l);
              alone = h.holding.alone;
              distinct = row_distinct [] ss h.row tt;
              chained = λ k. row_chained k [] ss h.row tt;
            };
      }

module _ {j : List ℕ} {ss : List Statement} (g : Journal j ss) where
  abbrev entries_part : List ℕ
  entries_part = entries_of 0 ss ++ replicate (entry_size * (most_entries - length ss)) 32

  abbrev lines_part : List ℕ
  lines_part = bodies_of ss ++ replicate (record_size * (g.lines - lines_of ss)) 32

  table_length : length entries_part ≡ table_size
  table_length =
      let f = g.kept.few in
      omega (arith, length-append (entries_of 0 ss) (replicate (entry_size * (most_entries - length ss)) 32), length_entries 0 ss g.kept.alone, length-replicate {A = ℕ} (entry_size * (most_entries - length ss)) 32)

  lines_length : length lines_part ≡ record_size * g.lines
  lines_length =
      let r = g.kept.room in
      omega (arith, length-append (bodies_of ss) (replicate (record_size * (g.lines - lines_of ss)) 32), length_bodies ss g.kept.alone, length-replicate {A = ℕ} (record_size * (g.lines - lines_of ss)) 32)

  pub journal_length : length j ≡ table_size + record_size * g.lines
  unfolding journal_of
  journal_length = ap length g.layout ∙ length-append entries_part lines_part ∙ ap₂ ◌+◌ table_length lines_length

  take_table : take table_size j ≡ entries_part
  unfolding journal_of
  take_table = ap (take table_size) g.layout ∙ take_at entries_part lines_part table_size table_length

  drop_table : drop table_size j ≡ lines_part
  unfolding journal_of
  drop_table = ap (drop table_size) g.layout ∙ drop_at entries_part lines_part table_size table_length

  pub journal_long : is_length (length j) ≡ true
  unfolding is_length
  journal_long =
      let m = g.most in
      let n = journal_length in
      both (both (le-leb table_size (length j) (omega arith)) (le-leb (length j) (line_at most_lines) (omega arith))) (eq-eqb (length j % record_size) 0 (omega arith))

  pub journal_held : Held j ss
  unfolding rest_blank
  journal_held =
      let f = g.kept.few in
      let r = g.kept.room in
      let m = g.most in
      let n = journal_length in
      let a = g.kept.alone in
      let x = length_entries 0 ss a in
      let y = length_bodies ss a in
      let e : take (table_size - entry_size * length ss) (drop (entry_size * length ss) j) ≡ replicate (entry_size * (most_entries - length ss)) 32 =
      sym (drop_take (entry_size * length ss) table_size j)
      ∙ ap (drop (entry_size * length ss)) take_table
      ∙ drop_at (entries_of 0 ss) _ (entry_size * length ss) x in
      let b : drop (line_at (lines_of ss)) j ≡ replicate (record_size * (g.lines - lines_of ss)) 32 =
      sym (drop-drop (record_size * lines_of ss) table_size j) ∙ ap (drop (record_size * lines_of ss)) drop_table ∙ drop_at (bodies_of ss) _ (record_size * lines_of ss) y in
      record {
        holding =
            record {
              few = f;
              room = omega arith;
              most = omega arith;
              alone = a;
              table = sym (take-take (entry_size * length ss) table_size j (omega arith)) ∙ ap (take (entry_size * length ss)) take_table ∙ take_at (entries_of 0 ss) _ (entry_size * length ss) x;
              bodies = ap (take (record_size * lines_of ss)) drop_table ∙ take_at (bodies_of ss) _ (record_size * lines_of ss) y;
            };
        row = row_of [] ss g.kept.distinct g.kept.chained;
        rest = both (ap (all blank) e ∙ are_blanks (entry_size * (most_entries - length ss))) (ap (all blank) b ∙ are_blanks (record_size * (g.lines - lines_of ss)));
      }

-- ---- the statements one after another

-- behind the last every entry is unused
pub unused_there : (j : List ℕ) (e k i : ℕ) → rest_blank j e k ≡ true → e ≤ i → i < most_entries → table_size ≤ length j → (entry_in j i).used ≡ false
unfolding entry_in rest_blank
unused_there j e k i r g h l = rw (lt-leb most_entries i h) (blank_unused (entry_bytes j i) byte)
  where
    rest : List ℕ
    rest = take (table_size - entry_size * e) (drop (entry_size * e) j)

    byte : (p : ℕ) → p < entry_size → get_or (entry_bytes j i) p 0 ≡ 32
    byte p q =
        let d = entry_size * (i - e) + p in
        let n = length-take-le (table_size - entry_size * e) (drop (entry_size * e) j) (omega (arith, length-drop (entry_size * e) j)) in
        let b = every_at (in_class blank) rest d (omega arith) (and_left (all blank rest) _ r) in
        let c = in_range (get_or rest d 0) b in
        let z : get_or rest d 0 ≡ 32 = omega (arith, c.0, c.1) in
        let y : entry_size * e + d ≡ entry_size * i + p = omega arith in
        get_or-take entry_size (drop (entry_size * i) j) p 0 q
        ∙ get_or-drop (entry_size * i) j p 0
        ∙ ap (λ (m : ℕ). get_or j m 0) (sym y)
        ∙ sym (get_or-drop (entry_size * e) j d 0)
        ∙ sym (get_or-take (table_size - entry_size * e) (drop (entry_size * e) j) d 0 (omega arith))
        ∙ z

-- the statement behind those of H
member : (H : List Statement) (t : Statement) (B : List Statement) → get_or (H ++ (t ∷ B)) (length H) no_statement ≡ t
member [] t B = refl
member (h ∷ H) t B = member H t B

pub lines_before : (H B : List Statement) → records_before (length H) (H ++ B) ≡ lines_of H
unfolding records_before lines_of
lines_before [] B = refl
lines_before (h ∷ H) B = ap (λ (n : ℕ). size_of h + n) (lines_before H B)

-- what is read of its entry and its body
pub record There (j : List ℕ) (H : List Statement) (t : Statement) : Type 0 where
  pub alone : Writable july t
  pub inside : line_at (lines_of H) + record_size * size_of t ≤ length j
  pub entry : entry_bytes j (length H) ≡ entry_of (lines_of H) t
  pub lines : lines_from j (lines_of H) (size_of t) ≡ body_of t
  pub fields : entry_in j (length H) ≡ record { used = true; first = lines_of H; records = size_of t }
  pub body : body_at j (length H) ≡ body_of t

pub there : {j : List ℕ} (H : List Statement) (t : Statement) (B : List Statement) → Holding j (H ++ (t ∷ B)) → There j H t
there {j} H t B g =
    let l : length H < length (H ++ (t ∷ B)) = omega (arith, length-append H (t ∷ B)) in
    let m = member H t B in
    let n = lines_before H (t ∷ B) in
    record {
      alone = rw m at (there_alone g (length H) l);
      inside = rw (m, n) at (there_inside g (length H) l);
      entry = rw (m, n) at (there_entry g (length H) l);
      lines = rw (m, n) at (there_lines g (length H) l);
      fields = rw (m, n) at (there_fields g (length H) l);
      body = rw m at (there_body g (length H) l);
    }

pub one_lines : (t : Statement) (k : ℕ) → k + lines_of (t ∷ []) ≡ k + size_of t
unfolding lines_of
one_lines t k = omega arith

module _ {j : List ℕ} (long : table_size ≤ length j) where
  walk_true : (H B : List Statement) → Holding j (H ++ B) → Row H B → rest_blank j (length (H ++ B)) (lines_of (H ++ B)) ≡ true
      → (m : ℕ) → length H + m ≡ most_entries → walk_in m (length H) (lines_of H) j ≡ true
  unfolding walk_in
  walk_true H [] g r b zero e = rw (append-nil H) at b
  walk_true H [] g r b (suc m) e =
      let c = rw (append-nil H) at b in
      rw (unused_there j (length H) (lines_of H) (length H) c (omega arith) (omega arith) long) c
  walk_true H (t ∷ B) g r b zero e = absurd (let f = g.few in omega (arith, length-append H (t ∷ B)))
  walk_true H (t ∷ B) g r b (suc m) e =
      let s = there H t B g in
      let x = holds_first H (t ∷ B) g in
      let a = append_assoc H (t ∷ []) B in
      let p : single (lines_from j (lines_of H) (size_of t)) ≡ true = rw s.lines (body_single s.alone) in
      let q : Reads (coding_of plain) plain (lines_from j (lines_of H) (size_of t)) (t ∷ []) = rw s.lines (body_reads s.alone) in
      let y : fits_in j (length H) (lines_of H) (size_of t) ≡ true =
      fits_value x (size_of t) s.inside p q refl ∙ rw (s.entry, equal_same (entry_of (lines_of H) t)) r.0 in
      let z : walk_in m (length (H ++ (t ∷ []))) (lines_of (H ++ (t ∷ []))) j ≡ true =
      walk_true (H ++ (t ∷ [])) B (rw a g) r.1 (rw a b) m (omega (arith, length-append H (t ∷ []))) in
      let c : length (H ++ (t ∷ [])) ≡ length H + 1 = length-append H (t ∷ []) in
      let d : lines_of (H ++ (t ∷ [])) ≡ lines_of H + size_of t = lines_append H (t ∷ []) ∙ one_lines t (lines_of H) in
      rw (s.fields, le-leb (line_at (lines_of H) + record_size * size_of t) (length j) s.inside, y, ← c, ← d) z

  read_back : (H B : List Statement) → Holding j (H ++ B) → rest_blank j (length (H ++ B)) (lines_of (H ++ B)) ≡ true
      → (m : ℕ) → length H + m ≡ most_entries → read_from m (length H) j ≡ B
  unfolding read_from
  read_back H [] g b zero e = refl
  read_back H [] g b (suc m) e = rw (unused_there j (length H) (lines_of H) (length H) (rw (append-nil H) at b) (omega arith) (omega arith) long)
  read_back H (t ∷ B) g b zero e = absurd (let f = g.few in omega (arith, length-append H (t ∷ B)))
  read_back H (t ∷ B) g b (suc m) e =
      let s = there H t B g in
      let a = append_assoc H (t ∷ []) B in
      let c : length (H ++ (t ∷ [])) ≡ length H + 1 = length-append H (t ∷ []) in
      let z : read_from m (length (H ++ (t ∷ []))) j ≡ B = read_back (H ++ (t ∷ [])) B (rw a g) (rw a b) m (omega arith) in
      rw s.fields (ap₂ ◌∷◌ (rw s.body (reads_statement (body_reads s.alone))) (rw c at z))

-- ---- THE THEOREMS

module _ {j : List ℕ} {ss : List Statement} (g : Journal j ss) where
  pub journal_sound : sound_in j ≡ true
  unfolding sound_in lines_of
  journal_sound =
      let h = journal_held g in
      rw (journal_long g) (walk_true (is_long (length j) (journal_long g)).least [] ss h.holding h.row h.rest most_entries refl)

  -- the list is what is read
  pub journal_list : held_of j ≡ ss
  unfolding held_of
  journal_list =
      let h = journal_held g in
      read_back (is_long (length j) (journal_long g)).least [] ss h.holding h.rest most_entries refl

-- the list of a sound journal
pub sound_journal : (j : List ℕ) → sound_in j ≡ true → Journal j (held_of j)
unfolding sound_in
sound_journal j h =
    let l = is_long (length j) (pick_both (is_length (length j)) _ h).0 in
    let p = sound_holds {j = j} h in
    let g = held_journal l p.1 in
    rw (journal_list g) g

-- a journal is sound exactly if there is a list that it is the layout of
pub sound_exact : (j : List ℕ) → (sound_in j ≡ true) ↔ ((ss : List Statement) × Journal j ss)
sound_exact j = ((λ h. (held_of j, sound_journal j h)), (λ g. journal_sound g.1))

-- and there is no second list
pub sound_unique : {j : List ℕ} {ss ts : List Statement} → Journal j ss → Journal j ts → ss ≡ ts
sound_unique g h = sym (journal_list g) ∙ journal_list h

-- no body in it has a debit zero
pub sound_no_debit_zero : (j : List ℕ) → sound_in j ≡ true → (e : ℕ) → e < length (held_of j) → no_debit_zero (pieces (coding_of plain) plain (body_at j e)) ≡ true
sound_no_debit_zero j h e i =
    let g = (journal_held (sound_journal j h)).holding in
    rw (there_body g e i) (body_own (there_alone g e i))
