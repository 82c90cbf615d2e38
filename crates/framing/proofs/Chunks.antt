-- The pieces that `chunks_exact` gives are those of `chunks`.
use mathlib.Core.Path.{◌≡◌, sym, ap, subst, ◌∙◌}
use mathlib.Core.List.{List, [], ◌∷◌, ◌++◌}
use Prim.Native.Nat.{ℕ, zero, suc, ◌/◌, ◌<◌}
use native.Mathlib.Nat.{add-div_left, div-eq_of_lt, div-mul-le_self}
use native.Mathlib.Omega.{arith}
use lib.ListN.{length, get_or, length-append}
use lib.Seq.{take_at, drop_at}
use Rattle.std.specs.List.{zip}
use Rattle.std.specs.Slice.Iter.{chunks_exact_rest, chunks_exact_size, chunks_exact_steps}
use Rattle.std.proofs.lemmas.Iterator.{YieldsList}
use Rattle.std.proofs.lemmas.Iterator.Splits.{YieldsList-from_shown_while}
use Rattle.framing.specs.Files.{chunks}
use Rattle.framing.proofs.Cuts.{Wide, wide_chunks, length_chunks}

-- all whole pieces of w bytes
abbrev pub whole_chunks : ℕ → List ℕ → List (List ℕ)
whole_chunks w b = chunks w (length b / w) b

pub wide_whole : (w : ℕ) (b : List ℕ) → Wide w (whole_chunks w b)
wide_whole w b = wide_chunks w (length b / w) b (div-mul-le_self (length b) w)

pub length_whole : (w : ℕ) (b : List ℕ) → length (whole_chunks w b) ≡ length b / w
length_whole w b = length_chunks w (length b / w) b

-- too few bytes for a piece
pub whole_none : (w : ℕ) (b : List ℕ) → length b < w → whole_chunks w b ≡ []
unfolding chunks
whole_none w b h = rw (div-eq_of_lt h)

-- a piece, and those of the rest
pub whole_more : (w : ℕ) (p b : List ℕ) → 0 < w → length p ≡ w → whole_chunks w (p ++ b) ≡ p ∷ whole_chunks w b
unfolding chunks
whole_more w p b h e =
    let n : length (p ++ b) / w ≡ suc (length b / w) = rw (length-append p b, e) (add-div_left (length b) h ∙ omega arith) in
    rw (n, take_at p b w e, drop_at p b w e)

-- a chain that begins at `chunks_exact`
pub YieldsList-from_chunks_exact : {s : _} (w : ℕ) (b : List ℕ) → 0 < w → chunks_exact_rest s ≡ b → chunks_exact_size s ≡ w
    → YieldsList chunks_exact_steps (λ p. p.now) s (whole_chunks w b)
YieldsList-from_chunks_exact {s} w b h rest size =
    subst (YieldsList chunks_exact_steps (λ p. p.now) s) (λ i. whole_chunks (size i) (rest i))
    (YieldsList-from_shown_while chunks_exact_steps (λ p. p.now) (λ t. whole_chunks (chunks_exact_size t) (chunks_exact_rest t)) (λ t. 0 < chunks_exact_size t)
    (λ t u g k. ap length (whole_none (chunks_exact_size t) (chunks_exact_rest t) k.1.0))
    (λ t p u g k. (
      omega (arith, k.0),
      ap (whole_chunks (chunks_exact_size t)) k.1.0 ∙ whole_more (chunks_exact_size t) p.now (chunks_exact_rest u) g k.1.1
          ∙ ap (λ n. p.now ∷ whole_chunks n (chunks_exact_rest u)) (sym k.0),
    ))
    s (omega (arith, size)))

-- each pair of a row of pieces of v bytes and of one of w bytes
pub wide_pair : (v w : ℕ) (ps qs : List (List ℕ)) (x : List ℕ × List ℕ) (k : ℕ) → Wide v ps → Wide w qs → k < length (zip ps qs) → x ≡ get_or (zip ps qs) k x
    → (length x.0 ≡ v) × (length x.1 ≡ w)
wide_pair v w [] qs x k g h l e = absurd (omega arith)
wide_pair v w (p ∷ ps) [] x k g h l e = absurd (omega arith)
wide_pair v w (p ∷ ps) (q ∷ qs) x zero g h l e = rw e (g.0, h.0)
wide_pair v w (p ∷ ps) (q ∷ qs) x (suc k) g h l e = wide_pair v w ps qs x k g.1 h.1 (omega arith) e
