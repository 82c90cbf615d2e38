-- The table of days: what stands at each place while it is filled, and the running sums.
use mathlib.Core.Path.{◌≡◌, refl, sym, ap, ◌∙◌}
use mathlib.Core.Bool.{Bool, true, false}
use mathlib.Core.List.{List, [], ◌∷◌, ◌++◌, append_assoc}
use Prim.Native.Nat.{ℕ, zero, suc, ◌+◌, ◌-◌, ◌<◌, ◌≤◌}
use native.Mathlib.Nat.{le_of_suc-le-suc, not-suc-le-zero}
use native.Mathlib.Omega.{arith}
use lib.Dec.{leb, eqb, leb-suc-suc, leb-zero, leb-suc-zero, eqb-suc-suc, eqb-zero-suc, eqb-suc-zero}
use lib.ListN.{length, get_or, replicate, length-set, length-replicate, get_or-replicate}
use lib.Seq.{ext_get_or}
use lib.IntN.{ℤ, pos, nat_abs, ◌+ℤ◌, +ℤ_idl, +ℤ_idr, +ℤ_assoc}
use borrow.Author.Tests.{leb-true, leb-false, le-leb, lt-leb, eq-eqb}
use Rattle.zones.specs.Choice.{pick}
use Rattle.fields.specs.declared.Valued.{Valued}
use Rattle.cash.specs.Value.{total, chosen, value_at}
use Rattle.cash.specs.Buckets.{row_of, running, bump, filled, opened}
use Rattle.cash.proofs.Tied.{most_sum, Tied, Part, kept}
use Rattle.cash.proofs.Group.{turn}
use Rattle.cash.proofs.Parts.{part_none, part_part, part_chosen}
use Rattle.cash.proofs.Bounds.{sum_bound, part_bound}
use Rattle.cash.proofs.Rows.{length_row, row_at}

pub length_bump : (t : List ℤ) (j : ℕ) (a : ℤ) → length (bump t j a) ≡ length t
unfolding bump
length_bump t j a = length-set t j _

pub length_filled : (first : ℕ) (t : List ℤ) (ms : List Valued) → length (filled first t ms) ≡ length t
unfolding filled
length_filled first t [] = refl
length_filled first t (m ∷ ms) = length_filled first (bump t (m.value - first) m.amount) ms ∙ length_bump t (m.value - first) m.amount

pub length_running : (c : ℤ) (t : List ℤ) → length (running c t) ≡ length t
unfolding running
length_running c [] = refl
length_running c (x ∷ xs) = ap suc (length_running (c +ℤ x) xs)

-- one amount at its place
pub bump_at : (t : List ℤ) (j i : ℕ) (a : ℤ) → i < length t → get_or (bump t j a) i (pos 0) ≡ get_or t i (pos 0) +ℤ pick (eqb j i) a (pos 0)
unfolding bump
bump_at [] j i a h = absurd (not-suc-le-zero h)
bump_at (x ∷ xs) zero zero a h = refl
bump_at (x ∷ xs) zero (suc i) a h = rw (eqb-zero-suc i) (sym (+ℤ_idr (get_or xs i (pos 0))))
bump_at (x ∷ xs) (suc j) zero a h = rw (eqb-suc-zero j) (sym (+ℤ_idr x))
bump_at (x ∷ xs) (suc j) (suc i) a h = rw (eqb-suc-suc j i) (bump_at xs j i a (le_of_suc-le-suc h))

-- and in the running sums from there on
shift : (c a : ℤ) (xs : List ℤ) (i : ℕ) → i < length xs → get_or (running (c +ℤ a) xs) i (pos 0) ≡ get_or (running c xs) i (pos 0) +ℤ a
unfolding running
shift c a [] i h = absurd (not-suc-le-zero h)
shift c a (x ∷ xs) zero h = turn c a x
shift c a (x ∷ xs) (suc i) h = rw (turn c a x) (shift (c +ℤ x) a xs i (le_of_suc-le-suc h))

running_bump : (c : ℤ) (t : List ℤ) (j i : ℕ) (a : ℤ) → i < length t
    → get_or (running c (bump t j a)) i (pos 0) ≡ get_or (running c t) i (pos 0) +ℤ pick (leb j i) a (pos 0)
unfolding bump running
running_bump c [] j i a h = absurd (not-suc-le-zero h)
running_bump c (x ∷ xs) zero zero a h = sym (+ℤ_assoc c x a)
running_bump c (x ∷ xs) zero (suc i) a h = rw (leb-zero (suc i), sym (+ℤ_assoc c x a)) (shift (c +ℤ x) a xs i (le_of_suc-le-suc h))
running_bump c (x ∷ xs) (suc j) zero a h = rw (leb-suc-zero j) (sym (+ℤ_idr (c +ℤ x)))
running_bump c (x ∷ xs) (suc j) (suc i) a h = rw (leb-suc-suc j i) (running_bump (c +ℤ x) xs j i a (le_of_suc-le-suc h))

-- no movement in a choice, and one more
chosen_none : (p : Valued → Bool) (z : ℤ) → z ≡ z +ℤ total (chosen p [])
unfolding chosen total
chosen_none p z = sym (+ℤ_idr z)

chosen_more : (p : Valued → Bool) (m : Valued) (ms : List Valued) (z : ℤ)
    → (z +ℤ pick (p m) m.amount (pos 0)) +ℤ total (chosen p ms) ≡ z +ℤ total (chosen p (m ∷ ms))
unfolding chosen total
chosen_more p m ms z = by (p m)
  where
    by : (t : Bool) → (z +ℤ pick t m.amount (pos 0)) +ℤ total (chosen p ms) ≡ z +ℤ total (pick t (m ∷ chosen p ms) (chosen p ms))
    by true = +ℤ_assoc z m.amount (total (chosen p ms))
    by false = rw (+ℤ_idr z)

-- a place of the table: what stood there and the movements that go there
pub filled_at : (first : ℕ) (t : List ℤ) (ms : List Valued) (i : ℕ) → i < length t
    → get_or (filled first t ms) i (pos 0) ≡ get_or t i (pos 0) +ℤ total (chosen (λ m. eqb (m.value - first) i) ms)
unfolding filled
filled_at first t [] i h = chosen_none (λ m. eqb (m.value - first) i) (get_or t i (pos 0))
filled_at first t (m ∷ ms) i h =
    filled_at first (bump t (m.value - first) m.amount) ms i (rw (length_bump t (m.value - first) m.amount) h)
    ∙ rw (bump_at t (m.value - first) i m.amount h) (chosen_more (λ m. eqb (m.value - first) i) m ms (get_or t i (pos 0)))

-- up to a day of the span
within : (v first i : ℕ) → leb (v - first) i ≡ leb v (first + i)
within v first i = by (leb v (first + i)) refl
  where
    by : (t : Bool) → leb v (first + i) ≡ t → leb (v - first) i ≡ t
    by true e = le-leb (v - first) i (omega (arith, leb-true v (first + i) e))
    by false e = lt-leb (v - first) i (omega (arith, leb-false v (first + i) e))

running_filled : (c : ℤ) (first : ℕ) (t : List ℤ) (ms : List Valued) (i : ℕ) → i < length t
    → get_or (running c (filled first t ms)) i (pos 0) ≡ get_or (running c t) i (pos 0) +ℤ total (chosen (λ m. leb m.value (first + i)) ms)
unfolding filled
running_filled c first t [] i h = chosen_none (λ m. leb m.value (first + i)) (get_or (running c t) i (pos 0))
running_filled c first t (m ∷ ms) i h =
    running_filled c first (bump t (m.value - first) m.amount) ms i (rw (length_bump t (m.value - first) m.amount) h)
    ∙ rw (running_bump c t (m.value - first) i m.amount h, within m.value first i) (chosen_more (λ m. leb m.value (first + i)) m ms (get_or (running c t) i (pos 0)))

zeros : (c : ℤ) (n i : ℕ) → i < n → get_or (running c (replicate n (pos 0))) i (pos 0) ≡ c
unfolding running
zeros c zero i h = absurd (not-suc-le-zero h)
zeros c (suc n) zero h = +ℤ_idr c
zeros c (suc n) (suc i) h = rw (+ℤ_idr c) (zeros c n i (le_of_suc-le-suc h))

empty : (b : ℤ) (n i : ℕ) → i < suc n → get_or (running (pos 0) (opened b n)) i (pos 0) ≡ b
unfolding running
empty b n zero h = +ℤ_idl b
empty b n (suc i) h = rw (+ℤ_idl b) (zeros b n i (le_of_suc-le-suc h))

length_opened : (b : ℤ) (n : ℕ) → length (opened b n) ≡ suc n
length_opened b n = ap suc (length-replicate n (pos 0))

balance : (b : ℤ) (ms : List Valued) (d : ℕ) → b +ℤ total (chosen (λ m. leb m.value d) ms) ≡ value_at b ms d
unfolding value_at
balance b ms d = refl

-- The running sums of the filled table are the row.
pub by_table : (b : ℤ) (ms : List Valued) (first n : ℕ) → running (pos 0) (filled first (opened b n) ms) ≡ row_of b ms first (suc n)
by_table b ms first n =
    let l : length (running (pos 0) (filled first (opened b n) ms)) ≡ suc n =
    length_running (pos 0) (filled first (opened b n) ms) ∙ length_filled first (opened b n) ms ∙ length_opened b n in
    ext_get_or (pos 0) _ _ (l ∙ sym (length_row b ms first (suc n)))
    (λ i h. let g : i < suc n = omega (arith, h, l) in
    running_filled (pos 0) first (opened b n) ms i (omega (arith, g, length_opened b n))
    ∙ rw (empty b n i g) (balance b ms (first + i) ∙ sym (row_at b ms first (suc n) i (pos 0) g)))

-- in the midst of filling
pub filled_append : (first : ℕ) (t : List ℤ) (xs ys : List Valued) → filled first t (xs ++ ys) ≡ filled first (filled first t xs) ys
unfolding filled
filled_append first t [] ys = refl
filled_append first t (x ∷ xs) ys = filled_append first (bump t (x.value - first) x.amount) xs ys

pub part_append : (xs ys : List Valued) → Part xs (xs ++ ys)
part_append [] ys = part_none ys
part_append (x ∷ xs) ys = kept (part_append xs ys)

last_place : (first : ℕ) (t : List ℤ) (m : Valued) → m.value - first < length t → get_or (filled first t (m ∷ [])) (m.value - first) (pos 0) ≡ get_or t (m.value - first) (pos 0) +ℤ m.amount
unfolding filled
last_place first t m h = bump_at t (m.value - first) (m.value - first) m.amount h ∙ rw (eq-eqb (m.value - first) (m.value - first) refl)

module _ {b c : ℤ} {ms : List Valued} (tied : Tied b c ms) where
  -- a place of the table, when some of the movements stand in it
  pub place_bound : (first n : ℕ) {xs : List Valued} → Part xs ms → (i : ℕ) → i < suc n → nat_abs (get_or (filled first (opened b n) xs) i (pos 0)) ≤ most_sum
  place_bound first n {xs} p zero h =
      rw (filled_at first (opened b n) xs 0 (omega (arith, length_opened b n))) (sum_bound tied (part_part p (part_chosen (λ m. eqb (m.value - first) 0) xs)))
  place_bound first n {xs} p (suc i) h =
      rw (filled_at first (opened b n) xs (suc i) (omega (arith, h, length_opened b n)), get_or-replicate n i (pos 0) (pos 0) (le_of_suc-le-suc h), +ℤ_idl (total (chosen (λ m. eqb (m.value - first) (suc i)) xs)))
      (part_bound tied (part_part p (part_chosen (λ m. eqb (m.value - first) (suc i)) xs)))

  -- the next movement added at its place
  pub step_bound : (first n : ℕ) (xs ys : List Valued) (m : Valued) → ms ≡ xs ++ (m ∷ ys) → m.value - first < suc n
      → nat_abs (get_or (filled first (opened b n) xs) (m.value - first) (pos 0) +ℤ m.amount) ≤ most_sum
  step_bound first n xs ys m e h =
      let j = m.value - first in
      let t = filled first (opened b n) xs in
      let q : Part (xs ++ (m ∷ [])) ms = rw (e, sym (append_assoc xs (m ∷ []) ys)) (part_append (xs ++ (m ∷ [])) ys) in
      let l : j < length t = omega (arith, h, length_filled first (opened b n) xs, length_opened b n) in
      let g : get_or (filled first (opened b n) (xs ++ (m ∷ []))) j (pos 0) ≡ get_or t j (pos 0) +ℤ m.amount =
      rw (filled_append first (opened b n) xs (m ∷ [])) (last_place first t m l) in
      omega (arith, place_bound first n q j h, ap nat_abs g)
