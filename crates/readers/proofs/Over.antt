-- The 05 of a movement, as the code counts them.
use mathlib.Core.Path.{◌≡◌, refl, ap, ap₂, sym, ◌∙◌}
use Rattle.std.specs.Prelude.{Some, None}
use mathlib.Core.Bool.{Bool, true, false}
use mathlib.Core.List.{List, [], ◌∷◌}
use Prim.Native.Nat.{ℕ, suc, ◌+◌, ◌-◌, ◌*◌, ◌<◌, ◌≤◌}
use native.Mathlib.Nat.{add-zero, zero-add, zero-mul, suc-mul, add-sub_cancel_left}
use native.Mathlib.Omega.{arith}
use lib.ListN.{length, take, drop, length-drop, take-append-drop}
use lib.Seq.{drop-drop, length-take-le}
use Rattle.std.specs.List.{prefix_len}
use Rattle.framing.proofs.Chunks.{whole_chunks, whole_none, whole_more}
use borrow.Author.Tests.{lt-ltb, le-ltb}
use Rattle.zones.specs.Choice.{pick}
use Rattle.framing.specs.declared.Form.{Form}
use Rattle.framing.specs.Files.{line_end, unknown_end, width_of, pieces_of}
use Rattle.records.specs.July.{record_size, is_code}
use Rattle.readers.specs.declared.Step.{Step}
use Rattle.readers.specs.Steps.{found_step, step_over, step_in, step_of, next_of}
use Rattle.readers.proofs.Walk.{piece_at}

-- the 05 are counted
counted : (w n at : ℕ) (ps : List (List ℕ)) → let c = length (take (prefix_len (is_code "05") ps) ps) in found_step (n + c) (at + c * w) ≡ step_over w n at ps
unfolding step_over
counted w n at [] = rw (add-zero n, zero-mul w, add-zero at)
counted w n at (p ∷ ps) = by (is_code "05" p) refl (counted w (n + 1) (at + w) ps)
  where
    by : (t : Bool) → is_code "05" p ≡ t
        → (let c = length (take (prefix_len (is_code "05") ps) ps) in found_step (n + 1 + c) (at + w + c * w) ≡ step_over w (n + 1) (at + w) ps)
        → (let c = length (take (prefix_len (is_code "05") (p ∷ ps)) (p ∷ ps)) in found_step (n + c) (at + c * w))
        ≡ pick (is_code "05" p) (step_over w (n + 1) (at + w) ps) (found_step n at)
    by true e more =
        let c = length (take (prefix_len (is_code "05") ps) ps) in
        let x : n + suc c ≡ n + 1 + c = omega arith in
        let y : at + suc c * w ≡ at + w + c * w = omega (arith, suc-mul c w) in
        let z : 1 + prefix_len (is_code "05") ps ≡ suc (prefix_len (is_code "05") ps) = omega arith in
        rw (e, z) (ap₂ found_step x y ∙ more)
    by false e more = rw e (rw (add-zero n, zero-mul w, add-zero at))

pub counted_all : (w at : ℕ) (ps : List (List ℕ)) → let c = length (take (prefix_len (is_code "05") ps) ps) in found_step c (at + c * w) ≡ step_over w 0 at ps
counted_all w at ps = let p = counted w 0 at ps in rw zero-add at p

-- the step's answers, as the code comes to them
module _ (b : List ℕ) (f : Form) (at : ℕ) where
  pub step_unknown : 2 < line_end f → None ≡ step_of b f at
  unfolding step_of
  step_unknown h = sym (rw (lt-ltb 2 (line_end f) h))

  -- no whole record is left
  pub step_short : line_end f ≤ 2 → length b - at < record_size + line_end f → None ≡ step_of b f at
  unfolding step_of step_in width_of
  step_short h l = sym (rw (le-ltb 2 (line_end f) h, whole_none (record_size + line_end f) (drop at b) (omega (arith, length-drop at b))))

  pub step_past : line_end f ≤ 2 → length b ≤ at → None ≡ step_of b f at
  step_past h l = step_short h (omega arith)

  module _ (h : line_end f ≤ 2) (l : at < length b) (z : record_size + line_end f ≤ length b - at) where
    step_by : step_of b f at
        ≡ pick (is_code "04" (piece_at (record_size + line_end f) at b))
        (Some (step_over (record_size + line_end f) 0 (at + (record_size + line_end f)) (whole_chunks (record_size + line_end f) (drop (at + (record_size + line_end f)) b))))
        None
    unfolding step_of step_in width_of
    step_by =
        let w = record_size + line_end f in
        let x : length (take w (drop at b)) ≡ w = length-take-le w (drop at b) (omega (arith, length-drop at b)) in
        let e : whole_chunks w (drop at b) ≡ take w (drop at b) ∷ whole_chunks w (drop (at + w) b)
        = ap (whole_chunks w) (sym (take-append-drop w (drop at b))) ∙ whole_more w (take w (drop at b)) (drop w (drop at b)) (omega arith) x ∙ rw (drop-drop w at b) in
        rw (le-ltb 2 (line_end f) h, e, add-sub_cancel_left at w)

    -- another record than a 04
    pub step_other : {t : Bool} → t ≡ is_code "04" (piece_at (record_size + line_end f) at b) → t ≡ false → None ≡ step_of b f at
    step_other e y = sym (step_by ∙ rw (sym e ∙ y))

    -- a 04, and the 05 after it
    pub step_there : {t : Bool} {r : Step} → t ≡ is_code "04" (piece_at (record_size + line_end f) at b) → t ≡ true
        → r ≡ step_over (record_size + line_end f) 0 (at + (record_size + line_end f)) (whole_chunks (record_size + line_end f) (drop (at + (record_size + line_end f)) b))
        → Some r ≡ step_of b f at
    step_there e y q = ap Some q ∙ sym (step_by ∙ rw (sym e ∙ y))

-- the place after the 05 is not before the first of them
over_later : (w n at lo : ℕ) (ps : List (List ℕ)) → lo ≤ at → lo ≤ (step_over w n at ps).next
unfolding step_over
over_later w n at lo [] h = h
over_later w n at lo (p ∷ ps) h = by (is_code "05" p) (over_later w (n + 1) (at + w) lo ps (omega arith))
  where
    by : (t : Bool) → lo ≤ (step_over w (n + 1) (at + w) ps).next → lo ≤ (pick t (step_over w (n + 1) (at + w) ps) (found_step n at)).next
    by true g = g
    by false g = h

-- the step goes on
pub step_later : (b : List ℕ) (f : Form) (at : ℕ) → at < length b → at < next_of (length b) (step_of b f at)
unfolding step_of step_in width_of
step_later b f at h = by (unknown_end f) (pieces_of record_size f (drop at b))
  where
    here : (t : Bool) (ps : List (List ℕ)) → at < next_of (length b) (pick t (Some (step_over (width_of record_size f) 0 (at + width_of record_size f) ps)) None)
    here true ps = omega (arith, over_later (record_size + line_end f) 0 (at + (record_size + line_end f)) (at + 1) ps (omega arith))
    here false ps = h

    by : (t : Bool) (ps : List (List ℕ)) → at < next_of (length b) (pick t None (step_in (width_of record_size f) at ps))
    by true ps = h
    by false [] = h
    by false (p ∷ ps) = here (is_code "04" p) ps
