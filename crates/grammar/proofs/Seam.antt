-- The seam to the bytes: a row of pieces is clean exactly if each is a fine record with its line end and the records decoded are clean.
use mathlib.Core.Path.{◌≡◌, refl, sym, ◌∙◌, ap, ap₂}
use mathlib.Core.Bool.{false, not}
use mathlib.Core.List.{List, [], ◌∷◌, ◌++◌, map}
use Prim.Native.Nat.{ℕ}
use native.Mathlib.Omega.{arith}
use lib.ListN.{length, take, drop, length-append}
use lib.Seq.{take_at, drop_at, length-take-le}
use borrow.Author.Tests.{not-false}
use Rattle.zones.proofs.Copies.{same_equal, equal_same}
use Rattle.framing.specs.declared.Form.{Form}
use Rattle.framing.specs.Files.{All, end_of, width_of, unknown_end, wrong_end, piece_of}
use Rattle.framing.proofs.Cuts.{Wide, end_length}
use Rattle.grammar.specs.Answer.{first_of}
use Rattle.grammar.specs.Machine.{judge_of, after}
use Rattle.grammar.specs.Record.{Rec}
use Rattle.grammar.specs.Rules.{Mode, State, taken, rules, recs}
use Rattle.grammar.specs.Files.{Coding, Fine, Lawful, rec_of, canon_piece, file_rules, files}
use Rattle.grammar.proofs.Tests.{off, of_off}
use Rattle.grammar.proofs.Runs.{Clean}
use Rattle.grammar.proofs.Quiet.{quiet, of_quiet}

-- the written form of what is written is itself
pub canon_encode : (C : Coding) → Lawful C → (r : Rec) → C.Ok r → C.canon (C.encode r) ≡ C.encode r
canon_encode C L r o = sym (L.again (C.encode r) (L.wide r o) (L.fine r o)) ∙ ap C.encode (L.same r o)

module _ (C : Coding) (f : Form) where
  -- the rules on a piece: its line end, its bytes, its record
  pub record Piece (m : Mode) (p : List ℕ) : Type 0 where
    pub ended : wrong_end C.size f p ≡ false
    pub fine : Fine C (take C.size p)
    pub quiet : first_of (rules C.edition m (rec_of C p)) ≡ 0

  -- no rule applies exactly if all three are right
  pub piece : (m : Mode) (p : List ℕ) → first_of (file_rules C f m p) ≡ 0 → Piece m p
  piece m p j =
      let x = off 0 (file_rules C f m p) (omega arith) j in
      let y = x.1.1.1 in
      let z = y.1.1.1 in
      record {
        ended = x.0;
        fine = record { permitted = x.1.0; known = x.1.1.0; fits = y.1.0; dated = y.1.1.0 };
        quiet = of_quiet C.edition m (rec_of C p)
            (record {
              place = y.0;
              same = z.0;
              single = z.1.0;
              dated = z.1.1.0;
              summed = z.1.1.1.0;
              short = z.1.1.1.1.0;
            });
      }

  -- and the other way round
  of_piece : (m : Mode) (p : List ℕ) → Piece m p → first_of (file_rules C f m p) ≡ 0
  of_piece m p x =
      let y = x.fine in
      let q = quiet C.edition m (rec_of C p) x.quiet in
      of_off (file_rules C f m p)
      (x.ended, (y.permitted, (y.known, (q.place, (y.fits, (y.dated, (q.same, (q.single, (q.dated, (q.summed, (q.short, tt)))))))))))

  -- pieces and their records leave the same state
  pub after_same : (ps : List (List ℕ)) (s : State) → after (files C f) s ps ≡ after (recs C.edition) s (map (rec_of C) ps)
  after_same [] s = refl
  after_same (p ∷ ps) s = after_same ps (taken C.edition s (rec_of C p))

  -- the pieces of some records
  abbrev pub pieces_for : List Rec → List (List ℕ)
  pieces_for rs = map (piece_of f) (map C.encode rs)

  module _ (L : Lawful C) where
    -- from the bytes to the records
    pub record Down (s : State) (ps : List (List ℕ)) : Type 0 where
      pub same : pieces_for (map (rec_of C) ps) ≡ map (canon_piece C) ps
      pub ok : All C.Ok (map (rec_of C) ps)
      pub clean : Clean (recs C.edition) s (map (rec_of C) ps)

    -- clean pieces, as the writer writes them, are those of their records, and these are clean
    pub down : (ps : List (List ℕ)) (s : State) → Wide (width_of C.size f) ps → Clean (files C f) s ps → Down s ps
    unfolding judge_of width_of
    down [] s w h = record { same = refl; ok = tt; clean = tt }
    down (p ∷ ps) s w h =
        let x = piece s.mode p h.0 in
        let d = down ps (taken C.edition s (rec_of C p)) w.1 h.1 in
        let l : length (take C.size p) ≡ C.size = length-take-le C.size p (omega (arith, w.0)) in
        let e : C.encode (rec_of C p) ++ end_of f ≡ canon_piece C p =
        ap₂ ◌++◌ (L.again (take C.size p) l x.fine) (sym (same_equal _ _ (not-false _ x.ended))) in
        record { same = ap₂ ◌∷◌ e d.same; ok = (L.ok (take C.size p) l x.fine, d.ok); clean = (x.quiet, d.clean) }

    -- from the records to the bytes: the record of a piece
    body : (r : Rec) → C.Ok r → take C.size (piece_of f (C.encode r)) ≡ C.encode r
    body r o = take_at (C.encode r) (end_of f) C.size (L.wide r o)

    -- the line end of a piece
    rest : (r : Rec) → C.Ok r → drop C.size (piece_of f (C.encode r)) ≡ end_of f
    rest r o = drop_at (C.encode r) (end_of f) C.size (L.wide r o)

    -- the values of a piece
    rec_piece : (r : Rec) → C.Ok r → rec_of C (piece_of f (C.encode r)) ≡ r
    rec_piece r o = ap C.decode (body r o) ∙ L.same r o

    -- the records of pieces as bytes
    pub bodies_pieces : (rs : List Rec) → All C.Ok rs → map (take C.size) (pieces_for rs) ≡ map C.encode rs
    bodies_pieces [] o = refl
    bodies_pieces (r ∷ rs) o = ap₂ ◌∷◌ (body r o.0) (bodies_pieces rs o.1)

    -- what stands after each is the line end
    pub ends_pieces : (rs : List Rec) → All C.Ok rs → map (drop C.size) (pieces_for rs) ≡ map (λ r. end_of f) rs
    ends_pieces [] o = refl
    ends_pieces (r ∷ rs) o = ap₂ ◌∷◌ (rest r o.0) (ends_pieces rs o.1)

    -- what is written is its own canonical form
    canon_piece_lem : (r : Rec) → C.Ok r → canon_piece C (piece_of f (C.encode r)) ≡ piece_of f (C.encode r)
    canon_piece_lem r o = rw (body r o, rest r o) (ap (λ l. l ++ end_of f) (canon_encode C L r o))

    -- and so are the pieces of some records
    pub canon_pieces : (rs : List Rec) → All C.Ok rs → map (canon_piece C) (pieces_for rs) ≡ pieces_for rs
    canon_pieces [] o = refl
    canon_pieces (r ∷ rs) o = ap₂ ◌∷◌ (canon_piece_lem r o.0) (canon_pieces rs o.1)

    -- the records of their pieces
    pub recs_pieces : (rs : List Rec) → All C.Ok rs → map (rec_of C) (pieces_for rs) ≡ rs
    recs_pieces [] o = refl
    recs_pieces (r ∷ rs) o = ap₂ ◌∷◌ (rec_piece r o.0) (recs_pieces rs o.1)

    -- all pieces have the same length
    pub wide_pieces : unknown_end f ≡ false → (rs : List Rec) → All C.Ok rs → Wide (width_of C.size f) (pieces_for rs)
    unfolding width_of
    wide_pieces h [] o = tt
    wide_pieces h (r ∷ rs) o =
        (omega (arith, length-append (C.encode r) (end_of f), L.wide r o.0, end_length f h), wide_pieces h rs o.1)

    -- the pieces of clean records are clean
    pub up : (rs : List Rec) (s : State) → All C.Ok rs → Clean (recs C.edition) s rs → Clean (files C f) s (pieces_for rs)
    unfolding judge_of
    up [] s o h = tt
    up (r ∷ rs) s o h = (
      of_piece s.mode (piece_of f (C.encode r))
          (record {
            ended = rw (rest r o.0) (ap not (equal_same (end_of f)));
            fine = rw (body r o.0) (L.fine r o.0);
            quiet = rw (rec_piece r o.0) h.0;
          }),
      rw (rec_piece r o.0) (up rs (taken C.edition s r) o.1 h.1),
    )
