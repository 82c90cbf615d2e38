-- In an accepted file the walk goes from statement to statement.
use mathlib.Core.Path.{◌≡◌, refl, sym, ap, ◌∙◌}
use mathlib.Core.List.{List, [], ◌∷◌, map}
use Prim.Native.Nat.{ℕ, suc, ◌+◌, ◌*◌, ◌<◌}
use native.Mathlib.Nat.{add-zero, zero-mul, suc-mul, add-mul}
use native.Mathlib.Omega.{arith}
use lib.ListN.{length, take, drop, get_or}
use lib.Seq.{drop-cons}
use Rattle.zones.specs.Choice.{pick}
use Rattle.framing.specs.declared.Form.{Form}
use Rattle.framing.specs.Files.{All, width_of}
use Rattle.grammar.specs.declared.Key.{Key}
use Rattle.grammar.specs.Record.{Rec, is_closing}
use Rattle.grammar.specs.Statements.{Movement, Statement, sizes, all_records}
use Rattle.grammar.specs.Files.{Fine, rec_of, pieces, Reads}
use Rattle.grammar.specs.Parts.{size_of, records_before, no_statement}
use Rattle.grammar.proofs.Parts.{drop_before}
use Rattle.grammar.proofs.Rows.{adds_then, moves_then, all_cons}
use Rattle.records.specs.July.{record_size, coding_of, edition_of}
use Rattle.readers.specs.Places.{end_in, end_after}
use Rattle.readers.proofs.Codes.{told}
use Rattle.readers.proofs.Rows.{before_next, pieces_from, records_from, fine_from}

-- the walk over records as values
module _ (f : Form) (w end : ℕ) where
  abbrev end_among : ℕ → List Rec → ℕ
  end_among at [] = end
  end_among at (r ∷ rs) = pick (is_closing r) (at + w) (end_among (at + w) rs)

  end_pieces : (ps : List (List ℕ)) → All (λ p. Fine (coding_of f) (take record_size p)) ps → (at : ℕ) → end_in w end at ps ≡ end_among at (map (rec_of (coding_of f)) ps)
  unfolding end_in
  end_pieces [] o at = refl
  end_pieces (p ∷ ps) o at = rw ((told f p o.0).seven, end_pieces ps o.1 (at + w))

  -- 05 are passed over
  end_adds : (e : List ℕ) (ts : List (List ℕ)) (l : List Rec) (at : ℕ) → end_among at (adds_then e ts l) ≡ end_among (at + length ts * w) l
  end_adds e [] l at = rw (zero-mul, add-zero)
  end_adds e (t ∷ ts) l at =
      let q : at + w + length ts * w ≡ at + suc (length ts) * w = omega (arith, suc-mul (length ts) w) in
      end_adds e ts l (at + w) ∙ ap (λ x. end_among x l) q

  -- and so are movements
  end_moves : (k : Key) (ms : List Movement) (l : List Rec) (at : ℕ) → end_among at (moves_then (edition_of f) k ms l) ≡ end_among (at + sizes ms * w) l
  unfolding sizes
  end_moves k [] l at = rw (zero-mul, add-zero)
  end_moves k (m ∷ ms) l at =
      let n = length m.complements in
      let q : at + w + n * w + sizes ms * w ≡ at + (1 + n + sizes ms) * w =
      omega (arith, add-mul (1 + n) (sizes ms) w, suc-mul n w) in
      end_adds ((edition_of f).repeats k m.posting) m.complements _ (at + w) ∙ end_moves k ms l (at + w + n * w) ∙ ap (λ x. end_among x l) q

  -- the walk stops behind the first statement
  end_one : (s : Statement) (ss : List Statement) (at : ℕ) → end_among at (all_records (edition_of f) (s ∷ ss)) ≡ at + size_of s * w
  end_one s ss at =
      let q : at + w + sizes s.movements * w + w ≡ at + size_of s * w = omega (arith, add-mul (sizes s.movements) 2 w) in
      rw (all_cons (edition_of f) s ss) (end_moves s.key s.movements _ (at + w) ∙ q)

module _ {f : Form} {b : List ℕ} {ss : List Statement} (r : Reads (coding_of f) f b ss) where
  -- THE CURSOR: from the place of a statement to the place after it
  pub cursor : (j : ℕ) → j < length ss → end_after f b (records_before j ss * width_of record_size f) ≡ records_before (j + 1) ss * width_of record_size f
  unfolding end_after
  cursor j h =
      let w = width_of record_size f in
      let m = records_before j ss in
      let rs = drop m (all_records (edition_of f) ss) in
      let s = get_or ss j no_statement in
      let z : end_among f w (length b) (m * w) rs ≡ m * w + size_of s * w =
      rw (drop_before (edition_of f) j ss, drop-cons ss j no_statement h) (end_one f w (length b) s (drop (suc j) ss) (m * w)) in
      rw (r.line, pieces_from r m) (end_pieces f w (length b) (drop m (pieces (coding_of f) f b)) (fine_from r m) (m * w) ∙ ap (end_among f w (length b) (m * w)) (records_from r m) ∙ z ∙ rw (before_next j ss h) (sym (add-mul m (size_of s) w)))
