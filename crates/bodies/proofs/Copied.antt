-- The records of a part copied one after another: what the loop keeps, and what is left in the end.
use mathlib.Core.Path.{◌≡◌, refl, sym, ap, ◌∙◌}
use mathlib.Core.List.{List, [], ◌∷◌, ◌++◌, append_assoc, append-nil}
use Prim.Native.Nat.{ℕ, zero, suc, ◌+◌, ◌-◌, ◌*◌, ◌/◌, ◌<◌, ◌≤◌}
use native.Mathlib.Nat.{add-sub_cancel_left, suc-mul, zero-mul, add-mul, le-div_iff_mul-le, div-eq_of_lt-le}
use native.Mathlib.Numerals.{add-one}
use native.Mathlib.Omega.{arith}
use lib.ListN.{length, take, drop, length-append, length-drop}
use lib.Seq.{take_at, drop_at, drop-drop, length-take-le}
use borrow.Author.Tests.{lt-ltb, le-ltb}
use borrow.Rule.Slice.PartMut.{put_mid}
use Rattle.framing.specs.declared.Form.{Form}
use Rattle.framing.specs.Files.{line_end, width_of, chunks}
use Rattle.framing.proofs.Chunks.{whole_chunks}
use Rattle.records.specs.July.{record_size}
use Rattle.bodies.specs.Bodies.{kept, kept_rows, body_in, body_put}
use Rattle.bodies.proofs.Ends.{length_kept}

-- one piece more
chunks_snoc : (w i : ℕ) (b : List ℕ) → chunks w (suc i) b ≡ chunks w i b ++ (take w (drop (i * w) b) ∷ [])
unfolding chunks
chunks_snoc w zero b = rw (zero-mul w)
chunks_snoc w (suc i) b =
    let e : suc i * w ≡ w + i * w = omega (arith, suc-mul i w) in
    rw (e, ← drop-drop (i * w) w b) (ap (λ l. take w b ∷ l) (chunks_snoc w i (drop w b)))

rows_append : (ps qs : List (List ℕ)) → kept_rows (ps ++ qs) ≡ kept_rows ps ++ kept_rows qs
unfolding kept_rows
rows_append [] qs = refl
rows_append (p ∷ ps) qs = rw (rows_append ps qs) (sym (append_assoc (kept (take record_size p)) (kept_rows ps) (kept_rows qs)))

length_rows : (w i : ℕ) (b : List ℕ) → record_size ≤ w → i * w ≤ length b → length (kept_rows (chunks w i b)) ≡ record_size * i
unfolding kept_rows chunks
length_rows w zero b h l = refl
length_rows w (suc i) b h l =
    let e = suc-mul i w in
    let r : length (take record_size (take w b)) ≡ record_size = length-take-le record_size (take w b) (rw (length-take-le w b (omega arith)) h) in
    let k = length_kept (take record_size (take w b)) r in
    length-append (kept (take record_size (take w b))) (kept_rows (chunks w i (drop w b)))
    ∙ omega (arith, k, length_rows w i (drop w b) h (omega (arith, length-drop w b)))

module _ (w : ℕ) (b dst : List ℕ) where
  -- n records are copied, and the pieces of `rest` are still to come
  pub record Copying (n size : ℕ) (rest x : List ℕ) : Type 0 where
    pub width : size ≡ w
    pub left : rest ≡ drop (n * w) b
    pub upto : n * w ≤ length b
    pub content : x ≡ kept_rows (chunks w n b) ++ drop (record_size * n) dst

  pub begins : {n size : ℕ} {rest : List ℕ} → n ≡ 0 → size ≡ w → rest ≡ b → Copying n size rest dst
  unfolding kept_rows chunks
  begins {n} e h l = rw e (record { width = h; left = l ∙ rw (zero-mul w); upto = omega (arith, zero-mul w); content = refl })

  module _ (h : record_size ≤ w) {n size : ℕ} {rest x : List ℕ} (g : Copying n size rest x) where
    module _ (p other : List ℕ) (e : rest ≡ p ++ other) (l : length p ≡ size) where
      -- one more piece lies in the part
      fits : (n + 1) * w ≤ length b
      fits = omega (arith, g.width, g.upto, ap length (sym g.left ∙ e), length-append p other, length-drop (n * w) b, add-mul n 1 w)

      -- there is room for one more
      pub inside : length b / w ≤ length dst / record_size → record_size * n + record_size ≤ length dst
      inside m =
          let z : 0 < w = omega arith in
          let q : n + 1 ≤ length b / w = (le-div_iff_mul-le z).1 fits in
          omega arith

      -- one more
      pub goes_on : {i n' size' : ℕ} {r : List ℕ} → size' ≡ size → i ≡ n → n' ≡ n + 1 → r ≡ kept (take record_size p)
          → Copying n' size' other (put_mid (record_size * i) (record_size * i + record_size - record_size * i) x r)
      unfolding kept_rows
      goes_on {r = r} s j m k =
          let v : length p ≡ w = l ∙ g.width in
          let f : drop (n * w) b ≡ p ++ other = sym g.left ∙ e in
          let t : take w (drop (n * w) b) ≡ p = rw f (take_at p other w v) in
          let y : (n + 1) * w ≡ n * w + w = omega (arith, add-mul n 1 w) in
          let d : drop ((n + 1) * w) b ≡ other = rw (y, ← drop-drop w (n * w) b, f) (drop_at p other w v) in
          let K = kept_rows (chunks w n b) in
          let D = drop (record_size * n) dst in
          let u : length K ≡ record_size * n = length_rows w n b h g.upto in
          let o : kept_rows (chunks w (n + 1) b) ≡ K ++ r =
          rw (add-one n, chunks_snoc w n b, t) (rows_append (chunks w n b) (p ∷ []) ∙ ap (λ q. K ++ q) (append-nil (kept (take record_size p)) ∙ sym k)) in
          let z : record_size * (n + 1) ≡ record_size * n + record_size = omega arith in
          rw (j, m, add-sub_cancel_left (record_size * n) record_size)
          (record {
            width = s ∙ g.width;
            left = sym d;
            upto = fits;
            content =
                rw (g.content, take_at K D (record_size * n) u, drop_at K D (record_size * n) u, drop-drop record_size (record_size * n) dst, o, z)
                (sym (append_assoc K r (drop (record_size * n + record_size) dst)));
          })

    pub ends : length rest < size → x ≡ kept_rows (whole_chunks w b) ++ drop (record_size * (length b / w)) dst
    ends k =
        let e : length b / w ≡ n = div-eq_of_lt-le w g.upto (omega (arith, g.width, ap length g.left, length-drop (n * w) b, add-mul n 1 w)) in
        rw e g.content

-- `put_body` at its returns
module _ (f : Form) (b dst : List ℕ) where
  pub unknown_end_lem : 2 < line_end f → dst ≡ body_put f b dst
  unfolding body_put
  unknown_end_lem h = sym (rw (lt-ltb 2 (line_end f) h))

  module _ (k : line_end f ≤ 2) where
    pub no_room : length dst / record_size < length b / (record_size + line_end f) → dst ≡ body_put f b dst
    unfolding body_put width_of
    no_room h =
        let n = length b / (record_size + line_end f) in
        sym (rw (le-ltb 2 (line_end f) k, lt-ltb (length dst) (record_size * n) (omega arith)))

    pub body_copied : {x : List ℕ} → length b / (record_size + line_end f) ≤ length dst / record_size
        → x ≡ kept_rows (whole_chunks (record_size + line_end f) b) ++ drop (record_size * (length b / (record_size + line_end f))) dst
        → x ≡ body_put f b dst
    unfolding body_put body_in width_of
    body_copied h e =
        let n = length b / (record_size + line_end f) in
        e ∙ sym (rw (le-ltb 2 (line_end f) k, le-ltb (length dst) (record_size * n) (omega arith)))
