-- The part of a file that is statement k is itself a file that reads as this statement alone.
use mathlib.Core.Path.{◌≡◌, refl, sym, ◌∙◌, ap}
use mathlib.Core.List.{List, [], ◌∷◌, ◌++◌, map}
use Prim.Native.Nat.{ℕ, zero, suc, ◌+◌, ◌-◌, ◌*◌, ◌<◌}
use native.Mathlib.Omega.{arith}
use lib.ListN.{length, take, drop, get_or, length-take, length-drop}
use lib.Seq.{take_at, drop_at, drop-cons, drop-drop}
use Rattle.framing.specs.declared.Form.{Form}
use Rattle.zones.specs.Pieces.{flat}
use Rattle.framing.specs.Files.{All, width_of, file_of}
use Rattle.framing.proofs.Cuts.{flat_drop, flat_take}
use Rattle.grammar.specs.declared.Key.{Key}
use Rattle.grammar.specs.Record.{Rec, closing, Edition}
use Rattle.grammar.specs.Statements.{Movement, Statement, Valid, sizes, records_of, all_records}
use Rattle.grammar.specs.Files.{Coding, Lawful, pieces, canon_piece, canonical, layout_of, Reads}
use Rattle.grammar.specs.Parts.{size_of, records_before, no_statement, part_of}
use Rattle.grammar.proofs.Rows.{adds_then, moves_then, all_cons}
use Rattle.grammar.proofs.Seam.{pieces_for}
use Rattle.grammar.proofs.Canonical.{canonical_flat, wide_all}
use Rattle.grammar.proofs.Exact.{reads_pieces, reads_flat, reads_same}
use Rattle.grammar.proofs.Trips.{one_records}

module _ {A : Type 0} (P : A → Type 0) where
  -- what holds of all holds of the last ones
  pub all_drop : (n : ℕ) (xs : List A) → All P xs → All P (drop n xs)
  all_drop zero xs h = h
  all_drop (suc n) [] h = tt
  all_drop (suc n) (x ∷ xs) h = all_drop n xs h.1

  -- and of the first ones
  all_take : (n : ℕ) (xs : List A) → All P xs → All P (take n xs)
  all_take zero xs h = tt
  all_take (suc n) [] h = tt
  all_take (suc n) (x ∷ xs) h = (h.0, all_take n xs h.1)

module _ {A B : Type 0} (f : A → B) where
  -- the last ones mapped
  pub map_drop : (n : ℕ) (xs : List A) → drop n (map f xs) ≡ map f (drop n xs)
  map_drop zero xs = refl
  map_drop (suc n) [] = refl
  map_drop (suc n) (x ∷ xs) = map_drop n xs

  -- the first ones mapped
  map_take : (n : ℕ) (xs : List A) → take n (map f xs) ≡ map f (take n xs)
  map_take zero xs = refl
  map_take (suc n) [] = refl
  map_take (suc n) (x ∷ xs) = ap (◌∷◌ (f x)) (map_take n xs)

-- the number of records of complements
length_adds : (e : List ℕ) (ts : List (List ℕ)) (l : List Rec) → length (adds_then e ts l) ≡ length ts + length l
length_adds e [] l = omega arith
length_adds e (t ∷ ts) l = omega (arith, length_adds e ts l)

module _ (E : Edition) where
  -- the number of records of movements
  length_moves : (k : Key) (ms : List Movement) (l : List Rec) → length (moves_then E k ms l) ≡ sizes ms + length l
  unfolding sizes
  length_moves k [] l = omega arith
  length_moves k (m ∷ ms) l =
      omega (arith, length_adds (E.repeats k m.posting) m.complements (moves_then E k ms l), length_moves k ms l)

  -- the number of records of a statement
  pub length_one : (s : Statement) → length (records_of E s) ≡ size_of s
  unfolding all_records
  length_one s =
      ap length (sym (one_records E s) ∙ all_cons E s [])
      ∙ omega (arith, length_moves s.key s.movements (closing s.key s.new_date s.new_balance ∷ []))

  -- behind the records of j statements stand those of the others
  pub drop_before : (j : ℕ) (ss : List Statement) → drop (records_before j ss) (all_records E ss) ≡ all_records E (drop j ss)
  unfolding records_before all_records
  drop_before zero ss = refl
  drop_before (suc j) [] = refl
  drop_before (suc j) (s ∷ ss) =
      sym (drop-drop (records_before j ss) (size_of s) (records_of E s ++ all_records E ss))
      ∙ rw (drop_at (records_of E s) (all_records E ss) (size_of s) (length_one s)) (drop_before j ss)

  -- and first among them the records of statement j, from 0
  part_records : (j : ℕ) (ss : List Statement) → j < length ss
      → take (size_of (get_or ss j no_statement)) (drop (records_before j ss) (all_records E ss)) ≡ all_records E (get_or ss j no_statement ∷ [])
  unfolding all_records
  part_records j ss h =
      let s = get_or ss j no_statement in
      rw (drop_before j ss, drop-cons ss j no_statement)
      (take_at (records_of E s) (all_records E (drop (suc j) ss)) (size_of s) (length_one s) ∙ sym (one_records E s))

module _ (C : Coding) (L : Lawful C) {f : Form} {b : List ℕ} {ss : List Statement} (r : Reads C f b ss) (j : ℕ) (h : j < length ss) where
  -- the part, as the writer writes it, is the layout of its statement
  part_layout : layout_of C f (get_or ss j no_statement ∷ []) ≡ canonical C f (part_of C f b (j + 1))
  unfolding part_of layout_of file_of
  part_layout =
      let n = size_of (get_or ss j no_statement) in
      let m = records_before j ss in
      let w = width_of C.size f in
      let rs = all_records C.edition ss in
      let ps = pieces C f b in
      let x = all_drop (λ p. length p ≡ w) m ps (wide_all C L f b) in
      let e : j + 1 - 1 ≡ j = omega arith in
      let cut : part_of C f b (j + 1) ≡ flat (take n (drop m ps)) =
      rw (reads_same C L r, e)
      (ap (λ l. take (n * w) (drop (m * w) l)) (sym (reads_flat C L r))
      ∙ ap (take (n * w)) (flat_drop w m ps (wide_all C L f b))
      ∙ flat_take w n (drop m ps) x) in
      let g : map (canon_piece C) (take n (drop m ps)) ≡ take n (drop m (map (canon_piece C) ps)) = simp (map_drop, map_take) in
      let k : take n (drop m (pieces_for C f rs)) ≡ pieces_for C f (take n (drop m rs)) = simp (map_drop, map_take) in
      sym (ap (canonical C f) cut
      ∙ canonical_flat C L f (take n (drop m ps)) (all_take (λ p. length p ≡ w) n (drop m ps) x)
      ∙ ap flat (g ∙ ap (λ l. take n (drop m l)) (reads_pieces C L r) ∙ k ∙ ap (pieces_for C f) (part_records C.edition j ss h)))

  -- the part is a file that reads as its statement alone
  pub part_reads : Reads C f (part_of C f b (j + 1)) (get_or ss j no_statement ∷ [])
  part_reads =
      let n = size_of (get_or ss j no_statement) in
      let m = records_before j ss in
      let rs = all_records C.edition ss in
      let p = part_records C.edition j ss h in
      record {
        line = r.line;
        valid = ((rw (drop-cons ss j no_statement) at (all_drop (Valid C.edition) j ss r.valid)).0, tt);
        ok = rw (← p) (all_take C.Ok n (drop m rs) (all_drop C.Ok m rs r.ok));
        layout = part_layout;
        few = rw (← p) (omega (arith, length-take n (drop m rs), length-drop m rs, r.few));
      }
