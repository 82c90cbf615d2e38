-- Where statement k stands: as the code comes to it, and what it is.
use mathlib.Core.Path.{◌≡◌, refl, sym, ap, ap₂, ◌∙◌}
use mathlib.Core.Bool.{Bool, true, false}
use mathlib.Core.List.{List, [], ◌∷◌}
use Prim.Native.Nat.{ℕ, zero, suc, ◌+◌, ◌-◌, ◌*◌, ◌<◌, ◌≤◌}
use native.Mathlib.Nat.{add-zero, zero-add, zero-mul, add-mul, add-sub_cancel_left}
use native.Mathlib.Omega.{arith}
use lib.Dec.{eqb, ltb}
use lib.ListN.{length, take, drop, get_or, length-drop}
use lib.Seq.{take_all, length-take-le}
use borrow.Author.Tests.{eq-eqb, ne_eqb, lt-ltb, le-ltb, eqb-false, ltb-false}
use Rattle.framing.specs.declared.Form.{Form}
use Rattle.framing.specs.Files.{width_of}
use Rattle.grammar.specs.Answer.{Counts, Answer, accepted, refused}
use Rattle.grammar.specs.Statements.{Statement}
use Rattle.grammar.specs.Files.{Reads, statements_of, check_of}
use Rattle.grammar.specs.Parts.{size_of, records_before, no_statement, part_of}
use Rattle.grammar.proofs.Rows.{counts_path}
use Rattle.records.specs.July.{record_size, coding_of}
use Rattle.records.proofs.Theorems.{counts, reads, unique, part_reads}
use Rattle.std.specs.Prelude.{Ok, Err}
use Rattle.framing.specs.Refusals.{refusal_by, refusal_of}
use Rattle.framing.specs.declared.refusals.Reason.TheVariants.{NoSuchStatement}
use Rattle.framing.specs.declared.refusals.Refusal.{Refusal}
use Rattle.statements.specs.declared.Counts.{Counts as Counted}
use Rattle.statements.specs.Answers.{checked_of}
use Rattle.readers.specs.declared.Place.{Place}
use Rattle.readers.specs.Places.{end_after, ends_after, place_by, place_of, statement_in, bytes_at}
use Rattle.readers.proofs.Walk.{end_inside}
use Rattle.readers.proofs.Rows.{before_next}
use Rattle.readers.proofs.Cursor.{cursor}

-- the check's answer in the terms of the definitions
pub accepted_of : (a : Answer) {n : Counted} → Ok n ≡ checked_of a
    → a ≡ accepted (record { statements = n.statements; movements = n.movements; complements = n.complements })
accepted_of (accepted x) {n} e =
    let p : x.statements ≡ n.statements = cc in
    let q : x.movements ≡ n.movements = cc in
    let r : x.complements ≡ n.complements = cc in
    ap accepted (counts_path p q r)
accepted_of (refused n r) e = absurd (let z : ◌≡◌ {A = ℕ} 0 1 = cc in omega arith)

pub refused_of_lem : (a : Answer) {e : Refusal} → Err e ≡ checked_of a → (n : ℕ) × (r : ℕ) × (a ≡ refused n r) × (e ≡ refusal_of n r)
refused_of_lem (accepted x) e = absurd (let z : ◌≡◌ {A = ℕ} 0 1 = cc in omega arith)
refused_of_lem (refused n r) e = (n, r, refl, cc)

-- how many statements an answer counts
abbrev statements_in : Answer → ℕ
statements_in (accepted c) = c.statements
statements_in (refused n r) = 0

module _ {f : Form} {b : List ℕ} {ss : List Statement} (r : Reads (coding_of f) f b ss) where
  -- j ends from the place after i statements on lead to the place after i + j
  walked_on : (j i : ℕ) → i + j ≤ length ss → ends_after f b j (records_before i ss * width_of record_size f) ≡ records_before (i + j) ss * width_of record_size f
  unfolding ends_after
  walked_on zero i h = rw (add-zero i)
  walked_on (suc j) i h =
      let z : i + 1 + j ≡ i + suc j = omega arith in
      rw (cursor r i (omega arith)) (walked_on j (i + 1) (omega arith) ∙ ap (λ n. records_before n ss * width_of record_size f) z)

  -- THE WALK: j ends from the file's first byte on lead to the place after j statements
  pub walked : (j : ℕ) → j ≤ length ss → ends_after f b j 0 ≡ records_before j ss * width_of record_size f
  unfolding records_before
  walked j h = ap (ends_after f b j) (sym (zero-mul (width_of record_size f))) ∙ walked_on j 0 (omega arith) ∙ rw (zero-add j)

  -- which lies in the file
  pub before_inside : (j : ℕ) → j ≤ length ss → records_before j ss * width_of record_size f ≤ length b
  unfolding records_before
  before_inside zero h = rw (zero-mul (width_of record_size f)) (omega arith)
  before_inside (suc j) h =
      let z : suc j ≡ j + 1 = omega arith in
      let p = before_inside j (omega arith) in
      rw (z, ← cursor r j (omega arith)) (end_inside f b (records_before j ss * width_of record_size f) p)

-- first byte and end of statement k of ss
pub record Stood (w : ℕ) (ss : List Statement) (k x y : ℕ) : Type 0 where
  pub first : x ≡ records_before (k - 1) ss * w
  pub end : y ≡ x + size_of (get_or ss (k - 1) no_statement) * w

module _ (f : Form) (b : List ℕ) (k : ℕ) {n : Counted} (e : Ok n ≡ checked_of (check_of (coding_of f) f b)) where
  yes : check_of (coding_of f) f b ≡ accepted (record { statements = n.statements; movements = n.movements; complements = n.complements })
  yes = accepted_of (check_of (coding_of f) f b) e

  many : length (statements_of (coding_of f) f b) ≡ n.statements
  many =
      ap statements_in (sym (counts (reads f b yes)) ∙ yes)

  -- no statement of that number
  pub none : k ≡ 0 → Err (refusal_by NoSuchStatement 0) ≡ place_of f b k
  unfolding place_of
  none z = sym (rw (yes, eq-eqb k 0 z))

  pub over : n.statements < k → Err (refusal_by NoSuchStatement 0) ≡ place_of f b k
  unfolding place_of
  over h =
      let z : k ≡ 0 → ⊥ = λ q. omega arith in
      sym (rw (yes, ne_eqb k 0 z, lt-ltb (length (statements_of (coding_of f) f b)) k (omega (arith, many))))

  module _ {x y : ℕ} (z : k ≡ 0 → ⊥) (h : k ≤ n.statements) (p : x ≡ ends_after f b (k - 1) 0) (q : y ≡ end_after f b x) where
    -- the walk to it and over it
    pub stood : Stood (width_of record_size f) (statements_of (coding_of f) f b) k x y
    stood =
        let ss = statements_of (coding_of f) f b in
        let w = width_of record_size f in
        let r = reads f b yes in
        let l : k - 1 < length ss = omega (arith, many) in
        let u : x ≡ records_before (k - 1) ss * w = p ∙ walked r (k - 1) (omega arith) in
        record {
          first = u;
          end = q ∙ rw u (cursor r (k - 1) l ∙ rw (before_next (k - 1) ss l) (add-mul (records_before (k - 1) ss) (size_of (get_or ss (k - 1) no_statement)) w));
        }

    pub there : Ok (record { first = x; len = y - x }) ≡ place_of f b k
    unfolding place_of
    there =
        let len = size_of (get_or (statements_of (coding_of f) f b) (k - 1) no_statement) * width_of record_size f in
        let v : y - x ≡ len = rw stood.end (add-sub_cancel_left x len) in
        ap₂ (λ p q. Ok (record { first = p; len = q })) stood.first v ∙ sym (rw (yes, ne_eqb k 0 z, le-ltb (length (statements_of (coding_of f) f b)) k (omega (arith, many))))

-- the file's refusal
pub not_read : (f : Form) (b : List ℕ) (k : ℕ) {e : Refusal} → Err e ≡ checked_of (check_of (coding_of f) f b) → Err e ≡ place_of f b k
unfolding place_of
not_read f b k {e} = by (check_of (coding_of f) f b)
  where
    by : (a : Answer) → Err e ≡ checked_of a → Err e ≡ place_by a (width_of record_size f) (statements_of (coding_of f) f b) k
    by (accepted x) p = absurd (let z : ◌≡◌ {A = ℕ} 0 1 = cc in omega arith)
    by (refused n r) p = let q : e ≡ refusal_of n r = cc in ap Err q

-- a place that is given: the file is accepted, and has statement k there
pub record Found (f : Form) (b : List ℕ) (k x n : ℕ) : Type 0 where
  pub counts : Counts
  pub yes : check_of (coding_of f) f b ≡ accepted counts
  pub some : k ≡ 0 → ⊥
  pub few : k ≤ length (statements_of (coding_of f) f b)
  pub first : x ≡ records_before (k - 1) (statements_of (coding_of f) f b) * width_of record_size f
  pub len : n ≡ size_of (get_or (statements_of (coding_of f) f b) (k - 1) no_statement) * width_of record_size f

apart : {p : Place} {e : Refusal} → Ok p ≡ Err e → ⊥
apart q = let z : ◌≡◌ {A = ℕ} 0 1 = cc in omega arith

pub found : (f : Form) (b : List ℕ) (k : ℕ) {place : Place} → Ok place ≡ place_of f b k → Found f b k place.first place.len
unfolding place_of
found f b k {place} e = by (check_of (coding_of f) f b) (eqb k 0) (ltb (length (statements_of (coding_of f) f b)) k) refl refl refl e
  where
    by : (a : Answer) (t u : Bool) → check_of (coding_of f) f b ≡ a → eqb k 0 ≡ t → ltb (length (statements_of (coding_of f) f b)) k ≡ u
        → Ok place ≡ place_by a (width_of record_size f) (statements_of (coding_of f) f b) k → Found f b k place.first place.len
    by (refused m r) t u p q v g = absurd (apart g)
    by (accepted c) true u p q v g = absurd (apart (rw q at g))
    by (accepted c) false true p q v g = absurd (apart (rw (q, v) at g))
    by (accepted c) false false p q v g =
        let w : place ≡ record { first = records_before (k - 1) (statements_of (coding_of f) f b) * width_of record_size f; len = size_of (get_or (statements_of (coding_of f) f b) (k - 1) no_statement) * width_of record_size f } = let h = rw (q, v) at g in cc in
        record { counts = c; yes = p; some = eqb-false k 0 q; few = ltb-false (length (statements_of (coding_of f) f b)) k v; first = ap (λ a. a.first) w; len = ap (λ a. a.len) w }

-- what the code cuts out
module _ (f : Form) (b : List ℕ) (k : ℕ) {p : Place} (e : Ok p ≡ place_of f b k) where
  -- the part of the file that the definitions name
  pub part_is : statement_in f b k ≡ part_of (coding_of f) f b k
  unfolding statement_in
  part_is = rw (← e)

  pub part_cut : take (p.first + p.len - p.first) (drop p.first b) ≡ statement_in f b k
  unfolding part_of
  part_cut =
      let g = found f b k e in
      rw (part_is, add-sub_cancel_left p.first p.len) (ap₂ (λ a c. take a (drop c b)) g.len g.first)

  -- it lies in the file
  pub part_inside : p.first + p.len ≤ length b
  part_inside =
      let g = found f b k e in
      let ss = statements_of (coding_of f) f b in
      let w = width_of record_size f in
      let r = reads f b g.yes in
      let o = g.some in
      let l : k - 1 < length ss = omega (arith, g.few) in
      let z : p.first + p.len ≡ records_before (k - 1 + 1) ss * w =
      ap₂ ◌+◌ g.first g.len ∙ sym (rw (before_next (k - 1) ss l) (add-mul (records_before (k - 1) ss) (size_of (get_or ss (k - 1) no_statement)) w)) in
      rw z (before_inside r (k - 1 + 1) (omega arith))

  -- at a place that is given stands the statement's part
  pub part_there : bytes_at p b ≡ statement_in f b k
  unfolding bytes_at
  part_there =
      rw (le-ltb (length b) (p.first + p.len) part_inside) (rw (add-sub_cancel_left p.first p.len) at part_cut)

  -- THE PART IS A FILE OF ONE STATEMENT: it reads as statement k, and nothing else
  pub part_alone : Reads (coding_of f) f (statement_in f b k) (get_or (statements_of (coding_of f) f b) (k - 1) no_statement ∷ [])
  part_alone =
      let g = found f b k e in
      let o = g.some in
      let l : k - 1 < length (statements_of (coding_of f) f b) = omega (arith, g.few) in
      let z : k - 1 + 1 ≡ k = omega arith in
      rw part_is (rw z at (part_reads (reads f b g.yes) (k - 1) l))

-- no part on refusal
pub part_none : (f : Form) (b : List ℕ) (k : ℕ) {e : Refusal} → Err e ≡ place_of f b k → [] ≡ statement_in f b k
unfolding statement_in
part_none f b k e = rw (← e)

-- statement 1 of a file of one statement is the whole file
alone_place : (f : Form) (p : List ℕ) (s : Statement) → Reads (coding_of f) f p (s ∷ []) → Ok (record { first = 0; len = size_of s * width_of record_size f }) ≡ place_of f p 1
unfolding place_of records_before
alone_place f p s r =
    let q : statements_of (coding_of f) f p ≡ s ∷ [] = unique (reads f p (counts r)) r in
    sym (rw (counts r, q, zero-mul (width_of record_size f)))

alone_part : (f : Form) (p : List ℕ) (s : Statement) → Reads (coding_of f) f p (s ∷ []) → length p ≡ size_of s * width_of record_size f → statement_in f p 1 ≡ p
alone_part f p s r l =
    let w = width_of record_size f in
    sym (part_cut f p 1 (alone_place f p s r)) ∙ rw (add-sub_cancel_left 0 (size_of s * w)) (take_all (size_of s * w) p (omega arith))

-- so it can be handed on with k 1: the part of the part is the part
pub part_again : (f : Form) (b : List ℕ) (k : ℕ) {place : Place} → Ok place ≡ place_of f b k → statement_in f (statement_in f b k) 1 ≡ statement_in f b k
part_again f b k {place} e =
    let g = found f b k e in
    let p = statement_in f b k in
    let s = get_or (statements_of (coding_of f) f b) (k - 1) no_statement in
    let c : p ≡ take place.len (drop place.first b) = sym (part_cut f b k e) ∙ rw (add-sub_cancel_left place.first place.len) in
    let l : length p ≡ place.len = ap length c ∙ length-take-le place.len (drop place.first b) (omega (arith, length-drop place.first b, part_inside f b k e)) in
    alone_part f p s (part_alone f b k e) (l ∙ g.len)
