-- The check accepts exactly the files that are the layout of valid statements once each record is as the writer writes it; these are determined, and the counts are theirs.
use mathlib.Core.Path.{◌≡◌, refl, sym, ◌∙◌, ap}
use mathlib.Core.Logic.{◌↔◌}
use mathlib.Core.Bool.{Bool, true, false, not}
use mathlib.Core.List.{List, [], ◌∷◌, map, append-nil}
use Prim.Native.Nat.{ℕ, ◌*◌, ◌%◌, ◌≤◌}
use native.Mathlib.Nat.{mul-div_cancel, mul-mod_left, div-add-mod'}
use native.Mathlib.Omega.{arith}
use lib.ListN.{length, take, length-map, drop_of_length-le}
use borrow.Author.Tests.{not-false, eq-eqb, eqb-true, le-ltb, ltb-false}
use Rattle.zones.specs.Choice.{pick}
use Rattle.zones.specs.Pieces.{flat}
use Rattle.framing.specs.declared.Form.{Form}
use Rattle.framing.specs.Files.{All, width_of, count_of, unknown_end, uneven, too_many, file_of}
use Rattle.framing.proofs.Cuts.{chunks_flat, length_flat, flat_chunks, length_chunks}
use Rattle.grammar.specs.Answer.{Counts, Answer, accepted, refused}
use Rattle.grammar.specs.Machine.{after}
use Rattle.grammar.specs.Record.{Rec}
use Rattle.grammar.specs.Rules.{out, is_out, start, recs}
use Rattle.grammar.specs.Statements.{Statement, Valid, all_records, counts_of, back}
use Rattle.grammar.specs.Files.{Coding, Fine, Lawful, rec_of, pieces, canon_piece, canonical, layout_of, Gives, Reads, statements_of, files, check_of}
use Rattle.grammar.proofs.Runs.{never, ran, runs}
use Rattle.grammar.proofs.Rows.{back_all, tally_all}
use Rattle.grammar.proofs.Sound.{sound}
use Rattle.grammar.proofs.Full.{full}
use Rattle.grammar.proofs.Since.{counts_after}
use Rattle.grammar.proofs.Seam.{after_same, pieces_for, down, bodies_pieces, canon_pieces, recs_pieces, wide_pieces, up}
use Rattle.grammar.proofs.Canonical.{bodies_canon, fine_canon, recs_canon, canonical_flat, wide_all, length_canonical, pieces_canonical, check_canonical, statements_canonical}

-- an accepted answer did not come from a refusal
passed : (t : Bool) (k : ℕ) (a : Answer) {c : Counts} → pick t (refused k 0) a ≡ accepted c → (t ≡ false) × (a ≡ accepted c)
passed true k a e = absurd (never e)
passed false k a e = (refl, e)

module _ (C : Coding) (L : Lawful C) where
  -- the pieces of a layout are those of its records
  module _ (f : Form) (ss : List Statement) (line : unknown_end f ≡ false) (ok : All C.Ok (all_records C.edition ss)) where
    -- a layout is as long as its records
    length_layout : length (layout_of C f ss) ≡ length (all_records C.edition ss) * width_of C.size f
    unfolding layout_of file_of
    length_layout =
        length_flat (width_of C.size f) _ (wide_pieces C f L line (all_records C.edition ss) ok) ∙ ap (λ n. n * width_of C.size f) (simp length-map)

    -- a layout is counted as many records as it has
    count_layout : count_of C.size f (layout_of C f ss) ≡ length (all_records C.edition ss)
    unfolding width_of
    count_layout = rw length_layout (mul-div_cancel (length (all_records C.edition ss)) (omega (arith, L.some)))

    -- a layout is cut into the pieces of its records
    pieces_layout : pieces C f (layout_of C f ss) ≡ pieces_for C f (all_records C.edition ss)
    unfolding layout_of file_of
    pieces_layout =
        let ps = pieces_for C f (all_records C.edition ss) in
        let e : count_of C.size f (layout_of C f ss) ≡ length ps = count_layout ∙ simp length-map in
        rw e (chunks_flat (width_of C.size f) ps (wide_pieces C f L line (all_records C.edition ss) ok))

    -- a layout is its own canonical form
    pub canonical_layout : canonical C f (layout_of C f ss) ≡ layout_of C f ss
    unfolding layout_of file_of
    canonical_layout =
        let rs = all_records C.edition ss in
        canonical_flat C L f (pieces_for C f rs) (wide_pieces C f L line rs ok) ∙ ap flat (canon_pieces C f L rs ok)

  -- so the layout of valid statements within the limits reads as them
  pub layout_reads : {f : Form} {ss : List Statement} → unknown_end f ≡ false → All (Valid C.edition) ss → All C.Ok (all_records C.edition ss)
      → length (all_records C.edition ss) ≤ C.edition.most_in_file → Reads C f (layout_of C f ss) ss
  layout_reads {f} {ss} line valid ok few =
      record { line = line; valid = valid; ok = ok; layout = sym (canonical_layout f ss line ok); few = few }

  -- the answer on the layout of a list of statements
  counts_layout : {f : Form} {b : List ℕ} {ss : List Statement} → Reads C f b ss → check_of C f (layout_of C f ss) ≡ accepted (counts_of ss)
  unfolding check_of
  counts_layout {f} {b} {ss} r =
      let rs = all_records C.edition ss in
      let ps = pieces_for C f rs in
      let z : length (layout_of C f ss) % width_of C.size f ≡ 0 =
      rw (length_layout f ss r.line r.ok) (mul-mod_left (length rs) (width_of C.size f)) in
      let even : uneven C.size f (layout_of C f ss) ≡ false = ap not (eq-eqb _ 0 z) in
      let n : count_of C.size f (layout_of C f ss) ≤ C.edition.most_in_file = rw (count_layout f ss r.line r.ok) r.few in
      let few : too_many C.size C.edition.most_in_file f (layout_of C f ss) ≡ false = le-ltb _ _ n in
      let g = (full C.edition ss r.valid).at_any _ in
      let e : after (files C f) start ps ≡ after (recs C.edition) start rs =
      after_same C f ps start ∙ ap (after (recs C.edition) start) (recs_pieces C f L rs r.ok) in
      rw (r.line, even, few, pieces_layout f ss r.line r.ok)
      (runs (files C f) ps 0 start (record { clean = up C f L rs start r.ok g.clean; closed = rw e g.closed })
      ∙ ap accepted (ap (λ s. s.counts) e ∙ counts_after C.edition rs ∙ tally_all C.edition ss))

  -- a list of statements that the file reads as gives its answer
  pub counts : {f : Form} {b : List ℕ} {ss : List Statement} → Reads C f b ss → check_of C f b ≡ accepted (counts_of ss)
  counts {f} {b} r = sym (check_canonical C L f b) ∙ ap (check_of C f) (sym r.layout) ∙ counts_layout r

  -- the pieces of such a file, as the writer writes them, are those of the records
  pub reads_pieces : {f : Form} {b : List ℕ} {ss : List Statement} → Reads C f b ss
      → map (canon_piece C) (pieces C f b) ≡ pieces_for C f (all_records C.edition ss)
  reads_pieces {f} {b} {ss} r = sym (pieces_canonical C L f b) ∙ ap (pieces C f) (sym r.layout) ∙ pieces_layout f ss r.line r.ok

  -- so each record, as the writer writes it, is the written record of its number
  pub reads_rows : {f : Form} {b : List ℕ} {ss : List Statement} → Reads C f b ss
      → map (λ p. C.canon (take C.size p)) (pieces C f b) ≡ map C.encode (all_records C.edition ss)
  reads_rows {f} {b} {ss} r =
      sym (bodies_canon C L f (pieces C f b) (wide_all C L f b))
      ∙ ap (map (take C.size)) (reads_pieces r)
      ∙ bodies_pieces C f L (all_records C.edition ss) r.ok

  -- each holds the values of its number
  pub reads_records : {f : Form} {b : List ℕ} {ss : List Statement} → Reads C f b ss
      → map (rec_of C) (pieces C f b) ≡ all_records C.edition ss
  reads_records {f} {b} {ss} r =
      sym (recs_canon C L f (pieces C f b) (wide_all C L f b))
      ∙ ap (map (rec_of C)) (reads_pieces r)
      ∙ recs_pieces C f L (all_records C.edition ss) r.ok

  -- and no rule on its bytes alone applies to it
  pub reads_fine : {f : Form} {b : List ℕ} {ss : List Statement} → Reads C f b ss → All (λ p. Fine C (take C.size p)) (pieces C f b)
  reads_fine {f} {b} {ss} r =
      fine_canon C L f (pieces C f b) (wide_all C L f b) (rw (reads_rows r) (each (all_records C.edition ss) r.ok))
    where
      each : (rs : List Rec) → All C.Ok rs → All (Fine C) (map C.encode rs)
      each [] o = tt
      each (x ∷ rs) o = (L.fine x o.0, each rs o.1)

  -- it is as long as the layout
  pub reads_length : {f : Form} {b : List ℕ} {ss : List Statement} → Reads C f b ss
      → length b ≡ length (all_records C.edition ss) * width_of C.size f
  reads_length {f} {b} {ss} r = sym (length_canonical C L f b) ∙ ap length (sym r.layout) ∙ length_layout f ss r.line r.ok

  -- and it is its pieces end to end
  pub reads_flat : {f : Form} {b : List ℕ} {ss : List Statement} → Reads C f b ss → flat (pieces C f b) ≡ b
  unfolding width_of
  reads_flat {f} {b} {ss} r =
      let w = width_of C.size f in
      let l = reads_length r in
      let n : count_of C.size f b ≡ length (all_records C.edition ss) = rw l (mul-div_cancel _ (omega (arith, L.some))) in
      flat_chunks w (count_of C.size f b) b (rw n l)

  -- and it is the one that `statements_of` gives
  pub reads_same : {f : Form} {b : List ℕ} {ss : List Statement} → Reads C f b ss → statements_of C f b ≡ ss
  unfolding statements_of
  reads_same {f} {b} {ss} r = ap (λ rs. (back rs).whole) (reads_records r) ∙ back_all C.edition ss

  -- an accepted file, as the writer writes it, is the layout of what `statements_of` gives
  pub reads : (f : Form) (b : List ℕ) {c : Counts} → check_of C f b ≡ accepted c → Reads C f b (statements_of C f b)
  unfolding check_of statements_of canonical layout_of file_of
  reads f b {c} e =
      let p = passed (unknown_end f) 1 _ e in
      let q = passed (uneven C.size f b) 2 _ p.1 in
      let t = passed (too_many C.size C.edition.most_in_file f b) 3 _ q.1 in
      let ps = pieces C f b in
      let z : length b % width_of C.size f ≡ 0 = eqb-true _ _ (not-false _ q.0) in
      let w : length b ≡ count_of C.size f b * width_of C.size f = omega (arith, div-add-mod' (length b) (width_of C.size f)) in
      let g = ran (files C f) ps 0 start t.1 in
      let d = down C f L ps start (wide_all C L f b) g.clean in
      let a : is_out (after (recs C.edition) start (map (rec_of C) ps)).mode ≡ true = rw (← after_same C f ps start) g.closed in
      let v = sound C.edition (map (rec_of C) ps) _ out d.clean a in
      record {
        line = p.0;
        valid = v.0;
        ok = rw v.1 d.ok;
        layout = rw (v.1, d.same, drop_of_length-le b {i = count_of C.size f b * width_of C.size f} (omega arith), append-nil);
        few = rw (v.1, length-map, length_chunks) (ltb-false _ _ t.0);
      }

  -- DEMAND 2: accepted exactly if some list of statements reads so
  pub exact : (f : Form) (b : List ℕ) → ((c : Counts) × (check_of C f b ≡ accepted c)) ↔ ((ss : List Statement) × Reads C f b ss)
  exact f b = ((λ a. (statements_of C f b, reads f b a.1)), (λ r. (counts_of r.0, counts r.1)))

  -- the list is unique
  pub unique : {f : Form} {b : List ℕ} {ss ts : List Statement} → Reads C f b ss → Reads C f b ts → ss ≡ ts
  unique r t = sym (reads_same r) ∙ reads_same t

  -- a file and its canonical form read as the same statements
  pub reads_canonical : {f : Form} {b : List ℕ} {ss : List Statement} → Reads C f b ss ↔ Reads C f (canonical C f b) ss
  reads_canonical {f} {b} {ss} = (
    (λ r. record {
      line = r.line;
      valid = r.valid;
      ok = r.ok;
      layout = sym (canonical_layout f ss r.line r.ok) ∙ ap (canonical C f) r.layout;
      few = r.few;
    }),
    (λ r. rw (sym (statements_canonical C L f b) ∙ reads_same r) at (reads f b (sym (check_canonical C L f b) ∙ counts r))),
  )

  -- what some statements give reads as them
  pub gives_reads : {f : Form} {b : List ℕ} {ss : List Statement} → Gives C f b ss → Reads C f b ss
  gives_reads {f} g = rw (← g.layout) (layout_reads g.line g.valid g.ok g.few)

  -- what a file reads as gives the file with each record as the writer writes it
  pub written_given : {f : Form} {b : List ℕ} {ss : List Statement} → Reads C f b ss → Gives C f (canonical C f b) ss
  written_given r = record { line = r.line; valid = r.valid; ok = r.ok; layout = r.layout; few = r.few }

  -- and so the file itself where this is the same
  pub reads_gives : {f : Form} {b : List ℕ} {ss : List Statement} → canonical C f b ≡ b → Reads C f b ss → Gives C f b ss
  reads_gives o r = rw o at (written_given r)

  -- so it is accepted exactly if some list of statements gives it
  pub exact_own : (f : Form) (b : List ℕ) → canonical C f b ≡ b
      → ((c : Counts) × (check_of C f b ≡ accepted c)) ↔ ((ss : List Statement) × Gives C f b ss)
  exact_own f b o = ((λ a. (statements_of C f b, reads_gives o (reads f b a.1))), (λ g. (counts_of g.0, counts (gives_reads g.1))))
