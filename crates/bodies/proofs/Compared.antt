-- Two rows of records compared piece by piece, and the last record of a part.
use mathlib.Core.Path.{◌≡◌, refl, sym, ap, ◌∙◌}
use mathlib.Core.Bool.{Bool, true, false, ◌&&◌}
use mathlib.Core.List.{List, [], ◌∷◌}
use Prim.Native.Nat.{ℕ, suc, ◌+◌, ◌-◌, ◌/◌, ◌<◌, ◌≤◌}
use native.Mathlib.Omega.{arith}
use lib.ListN.{length, take}
use borrow.Author.Tests.{lt-ltb, le-ltb}
use Rattle.std.specs.List.{list_all, zip}
use Rattle.framing.specs.declared.Form.{Form}
use Rattle.framing.specs.Files.{line_end, width_of, pieces_of}
use Rattle.framing.proofs.Chunks.{whole_chunks, length_whole}
use Rattle.records.specs.July.{record_size}
use Rattle.contents.specs.Heads.{record_at_of}
use Rattle.bodies.specs.Bodies.{same_record, same_rows, same_records, closing_in}

-- rows of one length, compared piece by piece
pub rows_in : (ps qs : List (List ℕ)) → length ps ≡ length qs
    → list_all (λ p. same_record (take record_size p.0) (take record_size p.1)) (zip ps qs) ≡ same_rows ps qs
unfolding same_rows
rows_in [] [] h = refl
rows_in [] (q ∷ qs) h = absurd (omega arith)
rows_in (p ∷ ps) [] h = absurd (omega arith)
rows_in (p ∷ ps) (q ∷ qs) h = rw (rows_in ps qs (omega arith))

-- rows of other lengths are not the same
other_rows : (ps qs : List (List ℕ)) → (length ps ≡ length qs → ⊥) → same_rows ps qs ≡ false
unfolding same_rows
other_rows [] [] h = absurd (h refl)
other_rows [] (q ∷ qs) h = refl
other_rows (p ∷ ps) [] h = refl
other_rows (p ∷ ps) (q ∷ qs) h = by (same_record (take record_size p) (take record_size q)) (other_rows ps qs (λ e. h (ap suc e)))
  where
    by : (t : Bool) {u : Bool} → u ≡ false → (t && u) ≡ false
    by true e = e
    by false e = refl

-- the two parts whole: what is left of the definition at each return
module _ (f : Form) (a : List ℕ) (g : Form) (b : List ℕ) where
  pub unknown_first : 2 < line_end f → false ≡ same_records f a g b
  unfolding same_records
  unknown_first h = sym (rw (lt-ltb 2 (line_end f) h))

  pub unknown_second : line_end f ≤ 2 → 2 < line_end g → false ≡ same_records f a g b
  unfolding same_records
  unknown_second k h = sym (rw (le-ltb 2 (line_end f) k, lt-ltb 2 (line_end g) h))

  module _ (k : line_end f ≤ 2) (l : line_end g ≤ 2) where
    known : same_records f a g b ≡ same_rows (pieces_of record_size f a) (pieces_of record_size g b)
    unfolding same_records
    known = rw (le-ltb 2 (line_end f) k, le-ltb 2 (line_end g) l)

    abbrev ps : List (List ℕ)
    ps = whole_chunks (record_size + line_end f) a

    abbrev qs : List (List ℕ)
    qs = whole_chunks (record_size + line_end g) b

    pub other_count : (length a / (record_size + line_end f) ≡ length b / (record_size + line_end g) → ⊥) → false ≡ same_records f a g b
    unfolding width_of
    other_count n = sym (known ∙ other_rows ps qs (λ e. n (omega (arith, e, length_whole (record_size + line_end f) a, length_whole (record_size + line_end g) b))))

    pub compared : {t : Bool} → length a / (record_size + line_end f) ≡ length b / (record_size + line_end g)
        → t ≡ list_all (λ p. same_record (take record_size p.0) (take record_size p.1)) (zip ps qs) → t ≡ same_records f a g b
    unfolding width_of
    compared e h = h ∙ rows_in ps qs (length_whole (record_size + line_end f) a ∙ e ∙ sym (length_whole (record_size + line_end g) b)) ∙ sym known

-- the last record, at the code's returns
module _ (f : Form) (b : List ℕ) where
  pub none_unknown : 2 < line_end f → [] ≡ closing_in f b
  unfolding closing_in
  none_unknown h = sym (rw (lt-ltb 2 (line_end f) h))

  pub none_short : line_end f ≤ 2 → length b < record_size + line_end f → [] ≡ closing_in f b
  unfolding closing_in width_of
  none_short k h = sym (rw (le-ltb 2 (line_end f) k, lt-ltb (length b) (record_size + line_end f) h))

  pub last_found : {r : List ℕ} → line_end f ≤ 2 → record_size + line_end f ≤ length b → r ≡ record_at_of b (length b - (record_size + line_end f)) → r ≡ closing_in f b
  unfolding closing_in width_of
  last_found k h e = e ∙ sym (rw (le-ltb 2 (line_end f) k, le-ltb (length b) (record_size + line_end f) h))
