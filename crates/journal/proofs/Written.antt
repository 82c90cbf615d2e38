-- A statement written behind those of a layout gives the layout with one more.
use mathlib.Core.Path.{◌≡◌, sym, ap, ap₂, ◌∙◌}
use mathlib.Core.List.{List, [], ◌∷◌, ◌++◌, append_assoc, append-nil}
use Prim.Native.Nat.{ℕ, zero, suc, ◌+◌, ◌-◌, ◌*◌, ◌<◌, ◌≤◌}
use native.Mathlib.Nat.{zero-add}
use native.Mathlib.Omega.{arith}
use lib.ListN.{length, take, drop, replicate, length-append, length-replicate}
use lib.Seq.{take_at, drop_at, drop-drop, drop-append-le}
use Rattle.zones.specs.Pieces.{flat}
use Rattle.framing.specs.Files.{All}
use Rattle.grammar.specs.Statements.{Statement}
use Rattle.grammar.specs.Files.{Writable}
use Rattle.grammar.specs.Parts.{size_of}
use Rattle.records.specs.July.{record_size, july}
use Rattle.bodies.specs.Bodies.{body_of}
use Rattle.entries.specs.Entries.{most_entries, entry_size, table_size, line_at}
use Rattle.journal_layout.specs.Layout.{lines_of, entry_of, entries_of, bodies_of, journal_of}
use Rattle.journal_layout.proofs.Holding.{length_entry_of}
use Rattle.journal_layout.proofs.Adding.{lines_append, entries_append, bodies_append, length_entries, length_bodies, all_append}
use Rattle.journal_layout.proofs.Exact.{one_lines}
use Rattle.journal.specs.Plans.{entry_written, body_written, written, written_all, Roomy}

-- the last of some blanks
drop_blanks : (m n : ℕ) → drop m (replicate n 32) ≡ replicate {A = ℕ} (n - m) 32
drop_blanks zero n = let z : n - 0 ≡ n = omega arith in rw z
drop_blanks (suc m) zero = let z : 0 - suc m ≡ 0 = omega arith in rw z
drop_blanks (suc m) (suc n) = let z : suc n - suc m ≡ n - m = omega arith in rw z (drop_blanks m n)

module _ (n : ℕ) (H : List Statement) (s : Statement) (a : All (Writable july) H) (w : Writable july s) (more : length H < most_entries) (room : lines_of H + size_of s ≤ n) where
  abbrev e : ℕ
  e = length H

  abbrev k : ℕ
  k = lines_of H

  abbrev E : List ℕ
  E = entries_of 0 H

  abbrev B : List ℕ
  B = bodies_of H

  -- what stands behind the entries, and behind the bodies
  abbrev X : List ℕ
  X = replicate (entry_size * (most_entries - e)) 32

  abbrev X' : List ℕ
  X' = replicate (entry_size * (most_entries - (e + 1))) 32

  abbrev Z : List ℕ
  Z = replicate (record_size * (n - k)) 32

  abbrev Z' : List ℕ
  Z' = replicate (record_size * (n - (k + size_of s))) 32

  fewer_entries : drop entry_size X ≡ X'
  fewer_entries =
      let z : entry_size * (most_entries - e) - entry_size ≡ entry_size * (most_entries - (e + 1)) = omega arith in
      drop_blanks entry_size (entry_size * (most_entries - e)) ∙ ap (λ (m : ℕ). replicate m 32) z

  fewer_lines : drop (record_size * size_of s) Z ≡ Z'
  fewer_lines =
      let z : record_size * (n - k) - record_size * size_of s ≡ record_size * (n - (k + size_of s)) = omega arith in
      drop_blanks (record_size * size_of s) (record_size * (n - k)) ∙ ap (λ (m : ℕ). replicate m 32) z

  -- the entry
  entry_written_lem : entry_written e k s (journal_of n H) ≡ (E ++ (entry_of k s ++ X')) ++ (B ++ Z)
  unfolding journal_of
  entry_written_lem =
      let l = length_entries 0 H a in
      let b = length-replicate {A = ℕ} (entry_size * (most_entries - e)) 32 in
      let t : take (entry_size * e) ((E ++ X) ++ (B ++ Z)) ≡ E = ap (take (entry_size * e)) (append_assoc E X (B ++ Z)) ∙ take_at E (X ++ (B ++ Z)) (entry_size * e) l in
      let d : drop (entry_size * e + entry_size) ((E ++ X) ++ (B ++ Z)) ≡ X' ++ (B ++ Z) =
      sym (drop-drop entry_size (entry_size * e) ((E ++ X) ++ (B ++ Z)))
      ∙ ap (drop entry_size) (ap (drop (entry_size * e)) (append_assoc E X (B ++ Z)) ∙ drop_at E (X ++ (B ++ Z)) (entry_size * e) l)
      ∙ drop-append-le entry_size X (B ++ Z) (omega arith)
      ∙ ap (λ y. y ++ (B ++ Z)) fewer_entries in
      ap₂ (λ x y. x ++ (entry_of k s ++ y)) t d
      ∙ ap (λ y. E ++ y) (sym (append_assoc (entry_of k s) X' (B ++ Z)))
      ∙ sym (append_assoc E (entry_of k s ++ X') (B ++ Z))

  abbrev table : List ℕ
  table = E ++ (entry_of k s ++ X')

  length_table : length table ≡ table_size
  length_table =
      omega (arith, length-append E (entry_of k s ++ X'), length-append (entry_of k s) X', length_entries 0 H a, length_entry_of w k, length-replicate {A = ℕ} (entry_size * (most_entries - (e + 1))) 32)

  -- the body
  body_written_lem : body_written k s (table ++ (B ++ Z)) ≡ table ++ (B ++ (body_of s ++ Z'))
  body_written_lem =
      let T = table in
      let l = length_table in
      let m = length_bodies H a in
      let o : length (T ++ B) ≡ line_at k = omega (arith, length-append T B) in
      let t : take (line_at k) (T ++ (B ++ Z)) ≡ T ++ B = ap (take (line_at k)) (sym (append_assoc T B Z)) ∙ take_at (T ++ B) Z (line_at k) o in
      let d : drop (line_at k + record_size * size_of s) (T ++ (B ++ Z)) ≡ Z' =
      sym (drop-drop (record_size * size_of s) (line_at k) (T ++ (B ++ Z)))
      ∙ ap (drop (record_size * size_of s)) (ap (drop (line_at k)) (sym (append_assoc T B Z)) ∙ drop_at (T ++ B) Z (line_at k) o)
      ∙ fewer_lines in
      ap₂ (λ x y. x ++ (body_of s ++ y)) t d ∙ append_assoc T B (body_of s ++ Z')

  pub layout_written : written e k s (journal_of n H) ≡ journal_of n (H ++ (s ∷ []))
  unfolding written journal_of entries_of bodies_of lines_of flat
  layout_written =
      let x : entries_of 0 (H ++ (s ∷ [])) ≡ E ++ entry_of k s = entries_append 0 H (s ∷ []) ∙ rw (zero-add k, append-nil (entry_of k s)) in
      let y : bodies_of (H ++ (s ∷ [])) ≡ B ++ body_of s = bodies_append H (s ∷ []) ∙ ap (λ b. B ++ b) (append-nil (body_of s)) in
      let c : length (H ++ (s ∷ [])) ≡ e + 1 = length-append H (s ∷ []) in
      let d : lines_of (H ++ (s ∷ [])) ≡ k + size_of s = lines_append H (s ∷ []) ∙ omega arith in
      ap (body_written k s) entry_written_lem ∙ body_written_lem
      ∙ sym (rw (x, y, c, d) (ap₂ ◌++◌ (append_assoc E (entry_of k s) X') (append_assoc B (body_of s) Z')))

-- all of them, one after another
pub layout_all : (n : ℕ) (H P : List Statement) → All (Writable july) H → All (Writable july) P → (size : ℕ) → size ≡ table_size + record_size * n
    → Roomy (length H) (lines_of H) size P → written_all (length H) (lines_of H) P (journal_of n H) ≡ journal_of n (H ++ P)
unfolding written_all
layout_all n H [] a p size z r = rw (append-nil H)
layout_all n H (s ∷ P) a p size z r =
    let c : length (H ++ (s ∷ [])) ≡ length H + 1 = length-append H (s ∷ []) in
    let d : lines_of (H ++ (s ∷ [])) ≡ lines_of H + size_of s = lines_append H (s ∷ []) ∙ one_lines s (lines_of H) in
    let m = r.1 in
    rw (layout_written n H s a p.0 r.0 (omega arith), ← c, ← d)
    (layout_all n (H ++ (s ∷ [])) P (all_append (Writable july) H (s ∷ []) a (p.0, tt)) p.1 size z (rw (c, d) r.2) ∙ rw (append_assoc H (s ∷ []) P))
