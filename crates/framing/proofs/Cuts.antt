-- Pieces of equal length and the whole: what is cut is what was put together, and the other way round.
use mathlib.Core.Path.{◌≡◌, refl, sym, ◌∙◌, ap, ap₂}
use mathlib.Core.Bool.{Bool, true, false}
use mathlib.Core.List.{List, [], ◌∷◌, ◌++◌, append_assoc, append-nil}
use Prim.Native.Nat.{ℕ, zero, suc, ◌+◌, ◌*◌, ◌≤◌}
use native.Mathlib.Nat.{suc-mul, zero-mul}
use native.Mathlib.Omega.{arith}
use lib.Dec.{eqb}
use lib.ListN.{length, take, drop, length-append, length-drop, take-append-drop}
use lib.Seq.{take_at, drop_at, take-add, drop-drop, take-nil, drop-nil, length-take-le}
use borrow.Author.Tests.{ltb-false, eqb-true, eqb-false}
use Rattle.zones.specs.Choice.{pick}
use Rattle.framing.specs.declared.Form.{Form}
use Rattle.zones.specs.Pieces.{flat}
use Rattle.framing.specs.Files.{All, line_end, end_of, unknown_end, chunks}

-- a known line end has as many bytes as its number says
pub end_length : (f : Form) → unknown_end f ≡ false → length (end_of f) ≡ line_end f
unfolding end_of
end_length f h = by (eqb (line_end f) 0) (eqb (line_end f) 1) refl refl
  where
    by : (t u : Bool) → eqb (line_end f) 0 ≡ t → eqb (line_end f) 1 ≡ u
        → length {A = ℕ} (pick t [] (pick u (10 ∷ []) (13 ∷ 10 ∷ []))) ≡ line_end f
    by true u e g = sym (eqb-true _ _ e)
    by false true e g = sym (eqb-true _ _ g)
    by false false e g =
        let y : line_end f ≡ 0 → ⊥ = eqb-false _ _ e in
        let z : line_end f ≡ 1 → ⊥ = eqb-false _ _ g in
        omega (arith, ltb-false 2 (line_end f) h)

-- every piece has w bytes
abbrev pub Wide : ℕ → List (List ℕ) → Type 0
Wide w ps = All (λ p. length p ≡ w) ps

module _ (w : ℕ) where
  -- pieces put together, with a rest behind them, and cut again are the same pieces
  pub chunks_flat_then : (ps : List (List ℕ)) (x : List ℕ) → Wide w ps → chunks w (length ps) (flat ps ++ x) ≡ ps
  unfolding chunks flat
  chunks_flat_then [] x l = refl
  chunks_flat_then (p ∷ ps) x l =
      rw (append_assoc p (flat ps) x)
      (ap₂ ◌∷◌ (take_at p (flat ps ++ x) w l.0) (rw (drop_at p (flat ps ++ x) w l.0) (chunks_flat_then ps x l.1)))

  -- pieces put together and cut again are the same pieces
  pub chunks_flat : (ps : List (List ℕ)) → Wide w ps → chunks w (length ps) (flat ps) ≡ ps
  chunks_flat ps l = rw append-nil at (chunks_flat_then ps [] l)

  -- whole pieces are as long as their number says
  pub length_flat : (ps : List (List ℕ)) → Wide w ps → length (flat ps) ≡ length ps * w
  unfolding flat
  length_flat [] l = sym (zero-mul w)
  length_flat (p ∷ ps) l = omega (arith, length-append p (flat ps), l.0, length_flat ps l.1, suc-mul (length ps) w)

  -- bytes cut and put together again are the same bytes, where nothing is left over
  pub flat_chunks : (m : ℕ) (b : List ℕ) → length b ≡ m * w → flat (chunks w m b) ≡ b
  unfolding chunks flat
  flat_chunks zero [] h = refl
  flat_chunks zero (x ∷ b) h = absurd (omega (arith, zero-mul w))
  flat_chunks (suc m) b h =
      ap (λ l. take w b ++ l) (flat_chunks m (drop w b) (omega (arith, length-drop w b, suc-mul m w))) ∙ take-append-drop w b

  -- bytes cut and put together again, with what is left over, are the same bytes
  pub flat_chunks_then : (m : ℕ) (b : List ℕ) → m * w ≤ length b → flat (chunks w m b) ++ drop (m * w) b ≡ b
  unfolding chunks flat
  flat_chunks_then zero b h = rw (zero-mul w)
  flat_chunks_then (suc m) b h =
      let e : suc m * w ≡ w + m * w = omega (arith, suc-mul m w) in
      rw (append_assoc, e, ← drop-drop (m * w) w b)
      (ap (λ l. take w b ++ l) (flat_chunks_then m (drop w b) (omega (arith, length-drop w b))) ∙ take-append-drop w b)

  -- as many pieces as the bytes are long enough for are whole
  pub wide_chunks : (m : ℕ) (b : List ℕ) → m * w ≤ length b → Wide w (chunks w m b)
  unfolding chunks
  wide_chunks zero b h = tt
  wide_chunks (suc m) b h =
      (length-take-le w b (omega (arith, suc-mul m w)), wide_chunks m (drop w b) (omega (arith, length-drop w b, suc-mul m w)))

  -- as many pieces as asked for
  pub length_chunks : (m : ℕ) (b : List ℕ) → length (chunks w m b) ≡ m
  unfolding chunks
  length_chunks zero b = refl
  length_chunks (suc m) b = ap suc (length_chunks m (drop w b))

  -- a row of whole pieces is a part of the bytes
  pub flat_drop : (m : ℕ) (ps : List (List ℕ)) → Wide w ps → drop (m * w) (flat ps) ≡ flat (drop m ps)
  unfolding flat
  flat_drop zero ps l = rw (zero-mul w)
  flat_drop (suc m) [] l = drop-nil (suc m * w)
  flat_drop (suc m) (p ∷ ps) l =
      let e : suc m * w ≡ w + m * w = omega (arith, suc-mul m w) in
      rw e (sym (drop-drop (m * w) w (p ++ flat ps)) ∙ rw (drop_at p (flat ps) w l.0) (flat_drop m ps l.1))

  -- and so are the first ones
  pub flat_take : (m : ℕ) (ps : List (List ℕ)) → Wide w ps → take (m * w) (flat ps) ≡ flat (take m ps)
  unfolding flat
  flat_take zero ps l = rw (zero-mul w)
  flat_take (suc m) [] l = take-nil (suc m * w)
  flat_take (suc m) (p ∷ ps) l =
      let e : suc m * w ≡ w + m * w = omega (arith, suc-mul m w) in
      rw e
      (take-add w (m * w) (p ++ flat ps)
      ∙ rw (take_at p (flat ps) w l.0, drop_at p (flat ps) w l.0) (ap (λ x. p ++ x) (flat_take m ps l.1)))
