-- The walk over records to the next 07: what the loop keeps, and one law for each way out of a turn.
use mathlib.Core.Path.{◌≡◌, refl, sym, ap, ◌∙◌}
use mathlib.Core.Bool.{Bool, true, false, ◌&&◌}
use mathlib.Core.List.{List, [], ◌∷◌}
use Prim.Native.Nat.{ℕ, suc, ◌+◌, ◌-◌, ◌*◌, ◌/◌, ◌<◌, ◌≤◌}
use native.Mathlib.Nat.{one-mul, suc-mul, div-add-mod', zero-div}
use native.Mathlib.Omega.{arith}
use lib.Dec.{eqb}
use lib.ListN.{length, take, drop, get_or, length-drop}
use lib.Seq.{take_all}
use borrow.Author.Tests.{lt-ltb, le-ltb, ltb-true, ltb-false}
use Rattle.zones.specs.Choice.{pick}
use Rattle.zones.specs.Copy.{same_bytes}
use Rattle.zones.proofs.Bools.{and_one}
use Rattle.layouts.specs.Zone.{part}
use Rattle.framing.specs.declared.Form.{Form}
use Rattle.framing.specs.Files.{line_end, unknown_end, width_of, chunks, pieces_of}
use Rattle.framing.proofs.Cuts.{length_chunks}
use Rattle.records.specs.July.{record_size, is_code}
use Rattle.std.specs.Prelude.{Some, None, cond}
use Rattle.std.specs.List.{position_or_len}
use Rattle.std.proofs.lemmas.Option.{none-some, same_Some}
use lib.Dec.{ltb}
use Rattle.framing.proofs.Chunks.{whole_chunks}
use Rattle.readers.specs.Places.{end_in, end_after, ends_after}

-- the two bytes of a code
pub two_bytes : (b : List ℕ) (second : ℕ) → 2 ≤ length b → (eqb 48 (get_or b 0 0) && eqb second (get_or b 1 0)) ≡ same_bytes (48 ∷ second ∷ []) (part 1 2 b)
unfolding same_bytes
two_bytes [] second h = absurd (omega arith)
two_bytes (x ∷ []) second h = absurd (omega arith)
two_bytes (x ∷ y ∷ b) second h = ap (λ (t : Bool). eqb 48 x && t) (sym (and_one (eqb second y)))

-- the piece at a place, as the code cuts it
abbrev pub piece_at : ℕ → ℕ → List ℕ → List ℕ
piece_at w p b = take (p + w - p) (drop p b)

-- The index of the first 07 among pieces, or their number, by which the end is known.
abbrev closing_index : List (List ℕ) → ℕ
closing_index ps = position_or_len (is_code "07") ps

module _ (w end : ℕ) where
  ended : (at : ℕ) (ps : List (List ℕ)) → end_in w end at ps ≡ cond (ltb (closing_index ps) (length ps)) (at + (closing_index ps + 1) * w) end
  unfolding end_in
  ended at [] = refl
  ended at (p ∷ ps) = by (is_code "07" p) refl (ltb (closing_index ps) (length ps)) refl (ended (at + w) ps)
    where
      by : (t : Bool) → is_code "07" p ≡ t → (u : Bool) → ltb (closing_index ps) (length ps) ≡ u
          → end_in w end (at + w) ps ≡ cond (ltb (closing_index ps) (length ps)) (at + w + (closing_index ps + 1) * w) end
          → pick (is_code "07" p) (at + w) (end_in w end (at + w) ps)
          ≡ cond (ltb (closing_index (p ∷ ps)) (length (p ∷ ps))) (at + (closing_index (p ∷ ps) + 1) * w) end
      by true e u g more =
          let z : (0 + 1) * w ≡ w = one-mul w in
          rw (e, lt-ltb 0 (suc (length ps)) (omega arith), z)
      by false e true g more =
          let l = ltb-true (closing_index ps) (length ps) g in
          let z : at + w + (closing_index ps + 1) * w ≡ at + (1 + closing_index ps + 1) * w = omega (arith, suc-mul (closing_index ps + 1) w) in
          rw (e, lt-ltb (1 + closing_index ps) (suc (length ps)) (omega arith)) (rw g at more ∙ z)
      by false e false g more =
          let l = ltb-false (closing_index ps) (length ps) g in
          rw (e, le-ltb (1 + closing_index ps) (suc (length ps)) (omega arith)) (rw g at more)

  pub ended_at : (at : ℕ) (ps : List (List ℕ)) {i : ℕ} → Some i ≡ cond (ltb (closing_index ps) (length ps)) (Some (closing_index ps)) None
      → at + (i + 1) * w ≡ end_in w end at ps
  ended_at at ps {i} q = by (ltb (closing_index ps) (length ps)) refl q
    where
      by : (t : Bool) → ltb (closing_index ps) (length ps) ≡ t → Some i ≡ cond t (Some (closing_index ps)) None → at + (i + 1) * w ≡ end_in w end at ps
      by true e p = rw (same_Some _ _ p) (sym (ended at ps ∙ rw e))
      by false e p = absurd (none-some _ (sym p))

  pub ended_none : (at : ℕ) (ps : List (List ℕ)) → None ≡ cond (ltb (closing_index ps) (length ps)) (Some (closing_index ps)) None → end ≡ end_in w end at ps
  ended_none at ps q = by (ltb (closing_index ps) (length ps)) refl q
    where
      by : (t : Bool) → ltb (closing_index ps) (length ps) ≡ t → None ≡ cond t (Some (closing_index ps)) None → end ≡ end_in w end at ps
      by true e p = absurd (none-some _ p)
      by false e p = sym (ended at ps ∙ rw e)

-- the rest of a file from a place on, as the code cuts it
pub rest_is : (at : ℕ) (b : List ℕ) → take (length b - at) (drop at b) ≡ drop at b
rest_is at b = take_all (length b - at) (drop at b) (omega (arith, length-drop at b))

-- the cursor's answers, as the code comes to them
module _ (f : Form) (b : List ℕ) (at : ℕ) where
  pub end_unknown : 2 < line_end f → length b ≡ end_after f b at
  unfolding end_after
  end_unknown h = sym (rw (lt-ltb 2 (line_end f) h))

  pub end_past : line_end f ≤ 2 → length b ≤ at → length b ≡ end_after f b at
  unfolding end_after end_in chunks
  end_past h l =
      let z : length b - at ≡ 0 = omega arith in
      sym (rw (le-ltb 2 (line_end f) h, length-drop at b, z, zero-div))

  pub end_walked : {r : ℕ} → line_end f ≤ 2 → r ≡ end_in (record_size + line_end f) (length b) at (whole_chunks (record_size + line_end f) (drop at b))
      → r ≡ end_after f b at
  unfolding end_after width_of
  end_walked h e = e ∙ sym (rw (le-ltb 2 (line_end f) h))

-- an end lies after every place that is not after the row and is before the end
end_later : (w end lo at : ℕ) (ps : List (List ℕ)) → 0 < w → lo < end → lo ≤ at → lo < end_in w end at ps
unfolding end_in
end_later w end lo at [] h e l = e
end_later w end lo at (p ∷ ps) h e l = by (is_code "07" p) (end_later w end lo (at + w) ps h e (omega arith))
  where
    by : (t : Bool) → lo < end_in w end (at + w) ps → lo < pick t (at + w) (end_in w end (at + w) ps)
    by true g = omega arith
    by false g = g

-- and where the row lies before the end, not after the end
end_most : (w end at : ℕ) (ps : List (List ℕ)) → at + length ps * w ≤ end → end_in w end at ps ≤ end
unfolding end_in
end_most w end at [] h = omega arith
end_most w end at (p ∷ ps) h = by (is_code "07" p) (end_most w end (at + w) ps (omega (arith, suc-mul (length ps) w)))
  where
    by : (t : Bool) → end_in w end (at + w) ps ≤ end → pick t (at + w) (end_in w end (at + w) ps) ≤ end
    by true g = omega (arith, suc-mul (length ps) w)
    by false g = g

module _ (f : Form) (b : List ℕ) (at : ℕ) where
  -- the cursor goes on
  pub end_after_lem : at < length b → at < end_after f b at
  unfolding end_after width_of
  end_after_lem h = by (unknown_end f)
    where
      by : (t : Bool) → at < pick t (length b) (end_in (width_of record_size f) (length b) at (pieces_of record_size f (drop at b)))
      by true = h
      by false = end_later (width_of record_size f) (length b) at at (pieces_of record_size f (drop at b)) (omega arith) h (omega arith)

  -- and stays in the file
  pub end_inside : at ≤ length b → end_after f b at ≤ length b
  unfolding end_after
  end_inside h = by (unknown_end f)
    where
      by : (t : Bool) → pick t (length b) (end_in (width_of record_size f) (length b) at (pieces_of record_size f (drop at b))) ≤ length b
      by true = omega arith
      by false =
          let w = width_of record_size f in
          let l = length_chunks w (length (drop at b) / w) (drop at b) in
          end_most w (length b) at (pieces_of record_size f (drop at b))
          (rw l (omega (arith, length-drop at b, div-add-mod' (length (drop at b)) w)))

-- one end after another: some are behind
pub ends_step : (f : Form) (b : List ℕ) (skip behind at : ℕ) → behind < skip → ends_after f b (skip - (behind + 1)) (end_after f b at) ≡ ends_after f b (skip - behind) at
unfolding ends_after
ends_step f b skip behind at h =
    let z : skip - behind ≡ suc (skip - (behind + 1)) = omega arith in
    rw z

pub ends_none : (f : Form) (b : List ℕ) (skip behind at : ℕ) → skip ≤ behind → at ≡ ends_after f b (skip - behind) at
unfolding ends_after
ends_none f b skip behind at h =
    let z : skip - behind ≡ 0 = omega arith in
    rw z
