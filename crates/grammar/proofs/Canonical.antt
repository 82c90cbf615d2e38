-- Any bytes and their canonical form: the same length, the same answer of the check, the same statements.
use mathlib.Core.Path.{◌≡◌, refl, sym, ◌∙◌, ap, ap₂}
use mathlib.Core.Bool.{not}
use mathlib.Core.List.{List, [], ◌∷◌, map, append-nil}
use Prim.Native.Nat.{ℕ, ◌+◌, ◌*◌, ◌/◌, ◌%◌, ◌≤◌}
use native.Mathlib.Nat.{div-mul-le_self, mul-div_cancel}
use native.Mathlib.Omega.{arith}
use lib.ListN.{length, take, drop, take-append-drop, length-append, length-drop, length-map, drop_of_length-le}
use lib.Dec.{ltb, eqb}
use lib.Seq.{take_at, drop_at, length-take-le}
use Rattle.zones.specs.Choice.{pick}
use Rattle.zones.specs.Pieces.{flat}
use Rattle.framing.specs.declared.Form.{Form}
use Rattle.framing.specs.Files.{All, width_of, count_of, unknown_end}
use Rattle.framing.proofs.Cuts.{Wide, chunks_flat, chunks_flat_then, length_flat, wide_chunks, flat_chunks_then, length_chunks}
use Rattle.grammar.specs.Answer.{first_of, refused}
use Rattle.grammar.specs.Machine.{judge_of, scan}
use Rattle.grammar.specs.Rules.{Mode, State, taken, start}
use Rattle.grammar.specs.Statements.{back}
use Rattle.grammar.specs.Files.{Coding, Fine, Lawful, rec_of, pieces, canon_piece, canonical, file_rules, files, check_of, statements_of}

module _ (C : Coding) (L : Lawful C) (f : Form) where
  -- a whole piece as the writer writes it: the same line end, the same values, the same rules
  record Written (p : List ℕ) : Type 0 where
    width : length (canon_piece C p) ≡ width_of C.size f
    body : take C.size (canon_piece C p) ≡ C.canon (take C.size p)
    rules : (m : Mode) → file_rules C f m (canon_piece C p) ≡ file_rules C f m p
    values : rec_of C (canon_piece C p) ≡ rec_of C p
    rest : drop C.size (canon_piece C p) ≡ drop C.size p

  -- this holds of every whole piece, by the law `alike`
  written : (p : List ℕ) → length p ≡ width_of C.size f → Written p
  unfolding width_of
  written p w =
      let x = take C.size p in
      let l : length x ≡ C.size = length-take-le C.size p (omega arith) in
      let a = L.alike x l in
      let n : length (C.canon x) ≡ C.size = a.sized ∙ l in
      let t : take C.size (canon_piece C p) ≡ C.canon x = take_at (C.canon x) (drop C.size p) C.size n in
      let d : drop C.size (canon_piece C p) ≡ drop C.size p = drop_at (C.canon x) (drop C.size p) C.size n in
      let v : rec_of C (canon_piece C p) ≡ rec_of C p = ap C.decode t ∙ a.values in
      record {
        width = omega (arith, length-append (C.canon x) (drop C.size p), length-drop C.size p);
        body = t;
        rules = λ m. rw (v, t, d, a.permitted, a.known, a.fits, a.dated);
        values = v;
        rest = d;
      }

  -- a row of pieces stays whole
  wide_canon : (ps : List (List ℕ)) → Wide (width_of C.size f) ps → Wide (width_of C.size f) (map (canon_piece C) ps)
  wide_canon [] w = tt
  wide_canon (p ∷ ps) w = ((written p w.0).width, wide_canon ps w.1)

  -- its records are those of the pieces, as the writer writes them
  pub bodies_canon : (ps : List (List ℕ)) → Wide (width_of C.size f) ps
      → map (take C.size) (map (canon_piece C) ps) ≡ map (λ p. C.canon (take C.size p)) ps
  bodies_canon [] w = refl
  bodies_canon (p ∷ ps) w = ap₂ ◌∷◌ (written p w.0).body (bodies_canon ps w.1)

  -- and what stands after each is as it was
  pub ends_canon : (ps : List (List ℕ)) → Wide (width_of C.size f) ps → map (drop C.size) (map (canon_piece C) ps) ≡ map (drop C.size) ps
  ends_canon [] w = refl
  ends_canon (p ∷ ps) w = ap₂ ◌∷◌ (written p w.0).rest (ends_canon ps w.1)

  -- where no rule on the bytes applies to them none applies to what stood
  pub fine_canon : (ps : List (List ℕ)) → Wide (width_of C.size f) ps → All (Fine C) (map (λ p. C.canon (take C.size p)) ps)
      → All (λ p. Fine C (take C.size p)) ps
  unfolding width_of
  fine_canon [] w h = tt
  fine_canon (p ∷ ps) w h =
      let a = L.alike (take C.size p) (length-take-le C.size p (omega (arith, w.0))) in (
        record {
          permitted = sym a.permitted ∙ h.0.permitted;
          known = sym a.known ∙ h.0.known;
          fits = sym a.fits ∙ h.0.fits;
          dated = sym a.dated ∙ h.0.dated;
        },
        fine_canon ps w.1 h.1,
      )

  -- they hold the same values
  pub recs_canon : (ps : List (List ℕ)) → Wide (width_of C.size f) ps → map (rec_of C) (map (canon_piece C) ps) ≡ map (rec_of C) ps
  recs_canon [] w = refl
  recs_canon (p ∷ ps) w = ap₂ ◌∷◌ (written p w.0).values (recs_canon ps w.1)

  -- and the pass over them answers alike, from any state
  scan_canon : (ps : List (List ℕ)) (i : ℕ) (s : State) → Wide (width_of C.size f) ps
      → scan (files C f) i s (map (canon_piece C) ps) ≡ scan (files C f) i s ps
  unfolding scan judge_of
  scan_canon [] i s w = refl
  scan_canon (p ∷ ps) i s w =
      let k = written p w.0 in
      ap₂ (λ n a. pick (eqb n 0) a (refused n (i + 1))) (ap first_of (k.rules s.mode))
      (ap (λ r. scan (files C f) (i + 1) (taken C.edition s r) (map (canon_piece C) ps)) k.values
      ∙ scan_canon ps (i + 1) (taken C.edition s (rec_of C p)) w.1)

  -- the canonical form of whole pieces end to end
  pub canonical_flat : (ps : List (List ℕ)) → Wide (width_of C.size f) ps → canonical C f (flat ps) ≡ flat (map (canon_piece C) ps)
  unfolding canonical width_of
  canonical_flat ps w =
      let n = length_flat (width_of C.size f) ps w in
      let c : count_of C.size f (flat ps) ≡ length ps = rw n (mul-div_cancel (length ps) (omega (arith, L.some))) in
      let e : length (flat ps) ≤ length ps * width_of C.size f = omega (arith, n) in
      rw (c, chunks_flat (width_of C.size f) ps w, drop_of_length-le (flat ps) e, append-nil)

  module _ (b : List ℕ) where
    -- there are as many pieces as the bytes are long enough for
    fit : count_of C.size f b * width_of C.size f ≤ length b
    fit = div-mul-le_self (length b) (width_of C.size f)

    -- they are whole
    pub wide_all : Wide (width_of C.size f) (pieces C f b)
    wide_all = wide_chunks (width_of C.size f) (count_of C.size f b) b fit

    -- the length stays
    pub length_canonical : length (canonical C f b) ≡ length b
    unfolding canonical
    length_canonical =
        let w = width_of C.size f in
        let m = count_of C.size f b in
        let ps = pieces C f b in
        let n : length (map (canon_piece C) ps) ≡ m = length-map ps (canon_piece C) ∙ length_chunks w m b in
        let l : length (flat (map (canon_piece C) ps)) ≡ m * w = length_flat w _ (wide_canon ps wide_all) ∙ ap (λ k. k * w) n in
        omega (arith, length-append (flat (map (canon_piece C) ps)) (drop (m * w) b), length-drop (m * w) b, fit)

    -- it is cut into the pieces as the writer writes them
    pub pieces_canonical : pieces C f (canonical C f b) ≡ map (canon_piece C) (pieces C f b)
    unfolding canonical
    pieces_canonical =
        let w = width_of C.size f in
        let ps = pieces C f b in
        let n : count_of C.size f (canonical C f b) ≡ length (map (canon_piece C) ps) =
        ap (λ k. k / w) length_canonical ∙ sym (length-map ps (canon_piece C) ∙ length_chunks w (count_of C.size f b) b) in
        rw n (chunks_flat_then w (map (canon_piece C) ps) _ (wide_canon ps wide_all))

    -- THE SAME ANSWER, refusals and records included
    pub check_canonical : check_of C f (canonical C f b) ≡ check_of C f b
    unfolding check_of
    check_canonical =
        let w = width_of C.size f in
        ap₂ (λ n a. pick (unknown_end f) (refused 1 0)
        (pick (not (eqb (n % w) 0)) (refused 2 0) (pick (ltb C.edition.most_in_file (n / w)) (refused 3 0) a)))
        length_canonical (ap (scan (files C f) 0 start) pieces_canonical ∙ scan_canon (pieces C f b) 0 start wide_all)

    -- the same statements
    pub statements_canonical : statements_of C f (canonical C f b) ≡ statements_of C f b
    unfolding statements_of
    statements_canonical =
        ap (λ rs. (back rs).whole) (ap (map (rec_of C)) pieces_canonical ∙ recs_canon (pieces C f b) wide_all)

    -- the bytes are their own canonical form where each record is as the writer writes it
    pub own_of : All (λ p. C.canon (take C.size p) ≡ take C.size p) (pieces C f b) → canonical C f b ≡ b
    unfolding canonical
    own_of h = rw (same (pieces C f b) h) (flat_chunks_then (width_of C.size f) (count_of C.size f b) b fit)
      where
        same : (ps : List (List ℕ)) → All (λ p. C.canon (take C.size p) ≡ take C.size p) ps → map (canon_piece C) ps ≡ ps
        same [] h = refl
        same (p ∷ ps) h = ap₂ ◌∷◌ (rw h.0 (take-append-drop C.size p)) (same ps h.1)

    -- and only there
    pub of_own : canonical C f b ≡ b → All (λ p. C.canon (take C.size p) ≡ take C.size p) (pieces C f b)
    of_own e = each (pieces C f b) wide_all (sym pieces_canonical ∙ ap (pieces C f) e)
      where
        each : (ps : List (List ℕ)) → Wide (width_of C.size f) ps → map (canon_piece C) ps ≡ ps → All (λ p. C.canon (take C.size p) ≡ take C.size p) ps
        each [] w g = tt
        each (p ∷ ps) w g = (sym (written p w.0).body ∙ ap (take C.size) (cc), each ps w.1 (cc))

  -- once written, a file is its own canonical form
  pub canonical_once : (b : List ℕ) → canonical C f (canonical C f b) ≡ canonical C f b
  unfolding width_of
  canonical_once b = own_of (canonical C f b) (rw (pieces_canonical b) (each (pieces C f b) (wide_all b)))
    where
      each : (ps : List (List ℕ)) → Wide (width_of C.size f) ps → All (λ p. C.canon (take C.size p) ≡ take C.size p) (map (canon_piece C) ps)
      each [] w = tt
      each (p ∷ ps) w =
          let l : length (take C.size p) ≡ C.size = length-take-le C.size p (omega (arith, w.0)) in
          let k = (written p w.0).body in
          (ap C.canon k ∙ (L.once (take C.size p) l ∙ sym k), each ps w.1)
