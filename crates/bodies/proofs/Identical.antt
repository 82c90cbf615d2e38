-- Two parts hold the same records exactly if their statements are identical, and a part's body is its statement's.
use mathlib.Core.Path.{◌≡◌, refl, sym, ap, ap₂, ◌∙◌}
use mathlib.Core.Bool.{true, ◌&&◌}
use mathlib.Core.List.{List, [], ◌∷◌, ◌++◌, map}
use Prim.Native.Nat.{ℕ, ◌*◌, ◌≤◌}
use native.Mathlib.Nat.{mul-div_cancel}
use native.Mathlib.Omega.{arith}
use lib.Dec.{eqb}
use lib.ListN.{length, take, drop, length-append}
use lib.Seq.{length-take-le}
use borrow.Author.Tests.{le-ltb}
use Rattle.zones.specs.Copy.{same_bytes}
use Rattle.zones.specs.Pieces.{flat}
use Rattle.zones.proofs.Bools.{and_assoc}
use Rattle.zones.proofs.Copies.{other_length, same_equal}
use Rattle.framing.specs.declared.Form.{Form}
use Rattle.framing.specs.Files.{width_of, count_of, pieces_of, plain}
use Rattle.framing.proofs.Cuts.{Wide}
use Rattle.grammar.specs.Statements.{Statement}
use Rattle.grammar.specs.Files.{Reads, Writable}
use Rattle.grammar.specs.Parts.{size_of}
use Rattle.grammar.proofs.Canonical.{wide_all}
use Rattle.grammar.proofs.Exact.{reads_rows}
use Rattle.grammar.proofs.Trips.{one_records}
use Rattle.records.specs.July.{record_size, july, encode_record, coding_of, edition_of}
use Rattle.records.proofs.Lawful.{lawful}
use Rattle.records.proofs.Theorems.{unique}
use Rattle.readers.proofs.Rows.{some}
use Rattle.contents.proofs.Heading.{length_part}
use Rattle.bodies.specs.Bodies.{kept, body_of, identical, same_rows, same_records, kept_rows, body_in, body_put}
use Rattle.bodies.specs.Answers.{PutBody}
use Rattle.bodies.proofs.Single.{body_reads}
use Rattle.bodies.proofs.Ends.{length_kept}

-- rows compared in two parts
same_append : (a b c d : List ℕ) → length a ≡ length c → (same_bytes a c && same_bytes b d) ≡ same_bytes (a ++ b) (c ++ d)
unfolding same_bytes
same_append [] b [] d h = refl
same_append [] b (y ∷ c) d h = absurd (omega arith)
same_append (x ∷ a) b [] d h = absurd (omega arith)
same_append (x ∷ a) b (y ∷ c) d h = and_assoc (eqb x y) (same_bytes a c) (same_bytes b d) ∙ ap (λ t. eqb x y && t) (same_append a b c d (omega arith))

-- the record of a piece as it is kept
abbrev kept_in : List ℕ → List ℕ
kept_in p = kept (take record_size p)

kept_wide : (f : Form) (p : List ℕ) → length p ≡ width_of record_size f → length (kept_in p) ≡ record_size
unfolding width_of
kept_wide f p w = length_kept (take record_size p) (length-take-le record_size p (omega (arith, w)))

module _ (f g : Form) where
  rows_same : (ps qs : List (List ℕ)) → Wide (width_of record_size f) ps → Wide (width_of record_size g) qs → same_rows ps qs ≡ same_bytes (flat (map kept_in ps)) (flat (map kept_in qs))
  unfolding same_rows same_bytes flat
  rows_same [] [] p q = refl
  rows_same [] (y ∷ ys) p q =
      other_length [] (kept_in y ++ flat (map kept_in ys)) (λ e. omega (arith, e, length-append (kept_in y) (flat (map kept_in ys)), kept_wide g y q.0))
  rows_same (x ∷ xs) [] p q =
      other_length (kept_in x ++ flat (map kept_in xs)) [] (λ e. omega (arith, e, length-append (kept_in x) (flat (map kept_in xs)), kept_wide f x p.0))
  rows_same (x ∷ xs) (y ∷ ys) p q =
      rw (rows_same xs ys p.1 q.1)
      (same_append (kept_in x) (flat (map kept_in xs)) (kept_in y) (flat (map kept_in ys)) (kept_wide f x p.0 ∙ sym (kept_wide g y q.0)))

-- the records of a statement's part, as they are kept, are its body
kept_of : {f : Form} {b : List ℕ} {s : Statement} → Reads (coding_of f) f b (s ∷ []) → flat (map kept_in (pieces_of record_size f b)) ≡ body_of s
unfolding body_of kept
kept_of {f} {b} {s} r = ap flat (reads_rows (coding_of f) (lawful f) r ∙ ap (map encode_record) (one_records (edition_of f) s))

pub same_identical : {f g : Form} {a b : List ℕ} {s t : Statement} → Reads (coding_of f) f a (s ∷ []) → Reads (coding_of g) g b (t ∷ []) → same_records f a g b ≡ identical s t
unfolding same_records identical
same_identical {f} {g} {a} {b} {s} {t} p q =
    rw (p.line, q.line)
    (rows_same f g (pieces_of record_size f a) (pieces_of record_size g b) (wide_all (coding_of f) (lawful f) f a) (wide_all (coding_of g) (lawful g) g b) ∙ ap₂ same_bytes (kept_of p) (kept_of q))

-- identical statements have the same body
pub identical_bodies : (s t : Statement) → identical s t ≡ true → body_of s ≡ body_of t
unfolding identical
identical_bodies s t e = same_equal (body_of s) (body_of t) e

-- identical statements are equal: in key, in dates, in all
pub identical_equal : {s t : Statement} → Writable july s → Writable july t → identical s t ≡ true → s ≡ t
identical_equal {s} {t} v w e =
    let p : Reads (coding_of plain) plain (body_of t) (s ∷ []) = rw (← identical_bodies s t e) (body_reads v) in
    let q = unique p (body_reads w) in
    cc

-- the body of a part is that of its statement
rows_text : (ps : List (List ℕ)) → kept_rows ps ≡ flat (map kept_in ps)
unfolding kept_rows flat
rows_text [] = refl
rows_text (p ∷ ps) = ap (λ l. kept_in p ++ l) (rows_text ps)

module _ {f : Form} {b : List ℕ} {s : Statement} (r : Reads (coding_of f) f b (s ∷ [])) where
  pub body_of_part : body_in f b ≡ body_of s
  unfolding body_in
  body_of_part = rows_text (pieces_of record_size f b) ∙ kept_of r

  -- as many records as the statement has
  pub part_count : count_of record_size f b ≡ size_of s
  part_count = rw (length_part r) (mul-div_cancel (size_of s) (some f))

  -- its body copied to where there is room
  pub body_put_lem : {x y : List ℕ} → PutBody f b x y → record_size * size_of s ≤ length x → y ≡ body_of s ++ drop (record_size * size_of s) x
  unfolding body_put
  body_put_lem {x} p h = p.content ∙ rw (r.line, part_count, le-ltb (length x) (record_size * size_of s) h, body_of_part)
