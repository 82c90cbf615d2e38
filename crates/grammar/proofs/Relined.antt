-- A file with another of the three line ends reads as the same statements; with its own it is the same file.
use mathlib.Core.Path.{◌≡◌, refl, sym, ◌∙◌, ap, ap₂}
use mathlib.Core.Bool.{false}
use mathlib.Core.List.{List, [], ◌∷◌, map}
use Prim.Native.Nat.{ℕ}
use native.Mathlib.Omega.{arith}
use lib.ListN.{length, take, drop, take-append-drop, length-append}
use lib.Seq.{take_at, drop_at, length-take-le}
use Rattle.zones.specs.Pieces.{flat}
use Rattle.framing.specs.declared.Form.{Form}
use Rattle.framing.specs.Files.{end_of, width_of, unknown_end, piece_of, file_of}
use Rattle.framing.proofs.Cuts.{Wide, end_length}
use Rattle.grammar.specs.Record.{Rec}
use Rattle.grammar.specs.Statements.{Statement, all_records}
use Rattle.grammar.specs.Files.{Coding, Lawful, pieces, canon_piece, relined, layout_of, Reads}
use Rattle.grammar.proofs.Seam.{ends_pieces}
use Rattle.grammar.proofs.Canonical.{ends_canon, canonical_flat, wide_all}
use Rattle.grammar.proofs.Exact.{reads_pieces, reads_rows, reads_flat}

module _ (C : Coding) (L : Lawful C) where
  -- the records of whole pieces, each with the line end of g
  module _ (f g : Form) where
    abbrev lined_up : List (List ℕ) → List (List ℕ)
    lined_up ps = map (piece_of g) (map (take C.size) ps)

    sized : (p : List ℕ) → length p ≡ width_of C.size f → length (take C.size p) ≡ C.size
    unfolding width_of
    sized p w = length-take-le C.size p (omega arith)

    -- are whole pieces
    wide_lined : unknown_end g ≡ false → (ps : List (List ℕ)) → Wide (width_of C.size f) ps → Wide (width_of C.size g) (lined_up ps)
    unfolding width_of
    wide_lined k [] w = tt
    wide_lined k (p ∷ ps) w =
        (omega (arith, length-append (take C.size p) (end_of g), sized p w.0, end_length g k), wide_lined k ps w.1)

    -- and as the writer writes them, those of the records as the writer writes them
    canon_lined : (ps : List (List ℕ)) → Wide (width_of C.size f) ps
        → map (canon_piece C) (lined_up ps) ≡ map (piece_of g) (map (λ p. C.canon (take C.size p)) ps)
    canon_lined [] w = refl
    canon_lined (p ∷ ps) w =
        let x = take C.size p in
        let l = sized p w.0 in
        ap₂ ◌∷◌ (rw (take_at x (end_of g) C.size l, drop_at x (end_of g) C.size l)) (canon_lined ps w.1)

  -- WITH ANY OF THE THREE LINE ENDS: an accepted file reads as the same statements
  pub relined_reads : {f g : Form} {b : List ℕ} {ss : List Statement} → Reads C f b ss → unknown_end g ≡ false → Reads C g (relined C f g b) ss
  unfolding relined layout_of file_of
  relined_reads {f} {g} {b} {ss} r k =
      let ps = pieces C f b in
      let w = wide_all C L f b in
      record {
        line = k;
        valid = r.valid;
        ok = r.ok;
        layout =
            sym (canonical_flat C L g (lined_up f g ps) (wide_lined f g k ps w)
            ∙ ap flat (canon_lined f g ps w ∙ ap (map (piece_of g)) (reads_rows C L r)));
        few = r.few;
      }

  -- with its own line end it is the same file
  pub relined_own : {f : Form} {b : List ℕ} {ss : List Statement} → Reads C f b ss → relined C f f b ≡ b
  unfolding relined file_of
  relined_own {f} {b} {ss} r =
      let ps = pieces C f b in
      let rs = all_records C.edition ss in
      let e : map (drop C.size) ps ≡ map (λ x. end_of f) rs =
      sym (ends_canon C L f ps (wide_all C L f b)) ∙ ap (map (drop C.size)) (reads_pieces C L r) ∙ ends_pieces C f L rs r.ok in
      ap flat (same ps rs e) ∙ reads_flat C L r
    where
      same : (ps : List (List ℕ)) (rs : List Rec) → map (drop C.size) ps ≡ map (λ x. end_of f) rs → lined_up f f ps ≡ ps
      same [] rs e = refl
      same (p ∷ ps) [] e = absurd (let z = ap length e in omega arith)
      same (p ∷ ps) (x ∷ rs) e =
          let h : drop C.size p ≡ end_of f = cc in
          let t : map (drop C.size) ps ≡ map (λ x. end_of f) rs = cc in
          ap₂ ◌∷◌ (rw (← h) (take-append-drop C.size p)) (same ps rs t)
