-- The definitions of a frame and of a line end at each return of `cut_length` and `wrong_end`.
use mathlib.Core.Path.{◌≡◌, refl, ap, sym, ◌∙◌}
use mathlib.Core.Bool.{not}
use mathlib.Core.List.{List, [], ◌∷◌}
use Prim.Native.Nat.{ℕ, zero-le, ◌+◌, ◌/◌, ◌%◌, ◌<◌, ◌≤◌}
use native.Mathlib.Nat.{mod-zero, div-zero}
use native.Mathlib.Omega.{arith}
use lib.Dec.{eqb}
use lib.ListN.{length}
use borrow.Author.Tests.{lt-ltb, le-ltb, eq-eqb, ne_eqb}
use Rattle.zones.specs.Copy.{same_bytes}
use Rattle.framing.specs.Files.{line_end, end_of, width_of}
use Rattle.framing.specs.Frames.{frame_of, frame_by}
use Rattle.framing.specs.declared.Form.{Form}
use Rattle.std.specs.Prelude.{Ok, Err}
use Rattle.framing.specs.Refusals.{refusal_by}
use Rattle.framing.specs.declared.refusals.Reason.TheVariants.{UnknownLineEnd, UnevenLength, TooManyRecords}

module _ (f : Form) (size most n : ℕ) where
  pub unknown : 2 < line_end f → Err (refusal_by UnknownLineEnd 0) ≡ frame_by f size most n
  unfolding frame_by
  unknown h = rw (lt-ltb 2 (line_end f) h)

  module _ (k : line_end f ≤ 2) where
    pub uneven_length : (n % (size + line_end f) ≡ 0 → ⊥) → Err (refusal_by UnevenLength 0) ≡ frame_by f size most n
    unfolding frame_by width_of
    uneven_length h = rw (le-ltb 2 (line_end f) k, ne_eqb (n % (size + line_end f)) 0 h)

    pub too_many : n % (size + line_end f) ≡ 0 → most < n / (size + line_end f) → Err (refusal_by TooManyRecords 0) ≡ frame_by f size most n
    unfolding frame_by width_of
    too_many e h = rw (le-ltb 2 (line_end f) k, eq-eqb (n % (size + line_end f)) 0 e, lt-ltb most (n / (size + line_end f)) h)

    pub records : n % (size + line_end f) ≡ 0 → n / (size + line_end f) ≤ most
        → Ok (record { width = size + line_end f; count = n / (size + line_end f) }) ≡ frame_by f size most n
    unfolding frame_by width_of
    records e h = rw (le-ltb 2 (line_end f) k, eq-eqb (n % (size + line_end f)) 0 e, le-ltb most (n / (size + line_end f)) h)

    -- records of no bytes
    pub empty : size + line_end f ≡ 0 → n ≡ 0 → Ok (record { width = 0; count = 0 }) ≡ frame_by f size most n
    empty w l =
        let q : n / (size + line_end f) ≡ 0 = rw w (div-zero n) in
        let z : Ok (record { width = size + line_end f; count = n / (size + line_end f) }) ≡ Ok (record { width = 0; count = 0 }) = rw (q, w) in
        sym z ∙ records (rw w (mod-zero n ∙ l)) (rw q (zero-le))

    pub unequal : size + line_end f ≡ 0 → (n ≡ 0 → ⊥) → Err (refusal_by UnevenLength 0) ≡ frame_by f size most n
    unequal w l = uneven_length (λ e. l (sym (mod-zero n) ∙ (ap (λ (m : ℕ). n % m) (sym w) ∙ e)))

-- a file's frame is that of its length
pub frame_length : (f : Form) (size most : ℕ) (b : List ℕ) → frame_by f size most (length b) ≡ frame_of f size most b
unfolding frame_of
frame_length f size most b = refl

-- the line end, by its number
module _ (f : Form) (after : List ℕ) where
  pub end_none : line_end f ≡ 0 → not (eqb (length after) 0) ≡ not (same_bytes after (end_of f))
  unfolding end_of same_bytes
  end_none h = rw h (by after)
    where
      by : (x : List ℕ) → not (eqb (length x) 0) ≡ not (same_bytes x [])
      by [] = refl
      by (y ∷ x) = ap not (ne_eqb (length (y ∷ x)) 0 (λ e. omega arith))

  pub end_lf : line_end f ≡ 1 → end_of f ≡ 10 ∷ []
  unfolding end_of
  end_lf h = rw h

  pub end_crlf : (line_end f ≡ 0 → ⊥) → (line_end f ≡ 1 → ⊥) → end_of f ≡ 13 ∷ 10 ∷ []
  unfolding end_of
  end_crlf g h = rw (ne_eqb (line_end f) 0 g, ne_eqb (line_end f) 1 h)
