-- Rows: a day's amount less the day's before, the last one, and running sums of day sums.
use mathlib.Core.Path.{◌≡◌, refl, sym, ap, ◌∙◌}
use mathlib.Core.Bool.{Bool, true, false}
use mathlib.Core.List.{List, [], ◌∷◌}
use Prim.Native.Nat.{ℕ, zero, suc, ◌+◌, ◌<◌, ◌≤◌}
use native.Mathlib.Nat.{add-zero, add-suc, suc-add, le_of_suc-le-suc, not-suc-le-zero}
use native.Mathlib.Omega.{arith}
use lib.Dec.{leb, ltb, eqb}
use lib.ListN.{length, get_or}
use lib.IntN.{ℤ, ◌+ℤ◌, +ℤ_idr, +ℤ_assoc}
use borrow.Author.Tests.{leb-true, leb-false, le-leb, ltb-true, ltb-false, lt-ltb, le-ltb, eq-eqb, ne_eqb}
use Rattle.zones.specs.Choice.{pick}
use Rattle.framing.specs.Files.{All}
use Rattle.fields.specs.declared.Valued.{Valued}
use Rattle.cash.specs.Value.{total, chosen, value_at, sum_on}
use Rattle.cash.specs.Buckets.{row_of}
use Rattle.cash.proofs.Tied.{Tied}
use Rattle.cash.proofs.Group.{swap}

-- the same test, the same choice
pub chosen_same : (p q : Valued → Bool) → ((m : Valued) → p m ≡ q m) → (ms : List Valued) → chosen p ms ≡ chosen q ms
unfolding chosen
chosen_same p q h [] = refl
chosen_same p q h (m ∷ ms) = rw (h m, chosen_same p q h ms)

pub chosen_all : (p : Valued → Bool) (ms : List Valued) → All (λ (m : Valued). p m ≡ true) ms → chosen p ms ≡ ms
unfolding chosen
chosen_all p [] a = refl
chosen_all p (m ∷ ms) a = rw (a.0, chosen_all p ms a.1)

-- one test is either of two others that exclude each other
data One : Bool → Bool → Bool → Type 0 where
  earlier : One true true false
  today : One true false true
  later : One false false false

total_split : (p q r : Valued → Bool) → ((m : Valued) → One (p m) (q m) (r m)) → (ms : List Valued)
    → total (chosen p ms) ≡ total (chosen q ms) +ℤ total (chosen r ms)
unfolding total chosen
total_split p q r h [] = refl
total_split p q r h (m ∷ ms) = by (p m) (q m) (r m) (h m) (total_split p q r h ms)
  where
    by : (a b c : Bool) → One a b c → total (chosen p ms) ≡ total (chosen q ms) +ℤ total (chosen r ms)
        → total (pick a (m ∷ chosen p ms) (chosen p ms)) ≡ total (pick b (m ∷ chosen q ms) (chosen q ms)) +ℤ total (pick c (m ∷ chosen r ms) (chosen r ms))
    by true true false earlier e = rw e (sym (+ℤ_assoc m.amount (total (chosen q ms)) (total (chosen r ms))))
    by true false true today e = rw e (swap m.amount (total (chosen q ms)) (total (chosen r ms)))
    by false false false later e = e
    by false false true x e = elim x [ ]
    by false true c x e = elim x [ ]
    by true false false x e = elim x [ ]
    by true true true x e = elim x [ ]

-- up to a day is before it or on it
upto : (v d : ℕ) → One (leb v d) (ltb v d) (eqb v d)
upto v d = by (ltb v d) (leb v d) refl refl
  where
    by : (s t : Bool) → ltb v d ≡ s → leb v d ≡ t → One t s (eqb v d)
    by true true e f = rw (ne_eqb v d (λ q. omega (arith, ltb-true v d e))) earlier
    by true false e f = absurd (omega (arith, ltb-true v d e, leb-false v d f))
    by false true e f = rw (eq-eqb v d (omega (arith, ltb-false v d e, leb-true v d f))) today
    by false false e f = rw (ne_eqb v d (λ q. omega (arith, leb-false v d f))) later

before_next : (v d : ℕ) → ltb v (suc d) ≡ leb v d
before_next v d = by (leb v d) refl
  where
    by : (t : Bool) → leb v d ≡ t → ltb v (suc d) ≡ t
    by true e = lt-ltb v (suc d) (omega (arith, leb-true v d e))
    by false e = le-ltb v (suc d) (omega (arith, leb-false v d e))

-- what the movements before a day leave
unfoldable pub start_of : ℤ → List Valued → ℕ → ℤ
start_of b ms day = b +ℤ total (chosen (λ m. ltb m.value day) ms)

pub start_next : (b : ℤ) (ms : List Valued) (d : ℕ) → start_of b ms (suc d) ≡ value_at b ms d
unfolding start_of value_at
start_next b ms d = rw (chosen_same (λ m. ltb m.value (suc d)) (λ m. leb m.value d) (λ m. before_next m.value d) ms)

pub start_day : (b : ℤ) (ms : List Valued) (d : ℕ) → start_of b ms d +ℤ sum_on ms d ≡ value_at b ms d
unfolding start_of value_at sum_on
start_day b ms d =
    +ℤ_assoc b _ _
    ∙ ap (λ z. b +ℤ z) (sym (total_split (λ m. leb m.value d) (λ m. ltb m.value d) (λ m. eqb m.value d) (λ m. upto m.value d) ms))

-- the next day's amount is the day's and the sum of the next day's movements
pub next_amount : (b : ℤ) (ms : List Valued) (d : ℕ) → value_at b ms (suc d) ≡ value_at b ms d +ℤ sum_on ms (suc d)
next_amount b ms d = sym (start_day b ms (suc d)) ∙ rw (start_next b ms d)

-- at or after every value date the amount is the last balance
pub last_amount : {b c : ℤ} {ms : List Valued} (d : ℕ) → Tied b c ms → All (λ (m : Valued). m.value ≤ d) ms → value_at b ms d ≡ c
unfolding value_at
last_amount {b} {c} {ms} d t a = rw (chosen_all (λ m. leb m.value d) ms (tests ms a)) t.tie
  where
    tests : (xs : List Valued) → All (λ (m : Valued). m.value ≤ d) xs → All (λ (m : Valued). leb m.value d ≡ true) xs
    tests [] a = tt
    tests (x ∷ xs) a = (le-leb x.value d a.0, tests xs a.1)

-- with no movement every amount is the first balance
pub no_movement_lem : (b : ℤ) (d : ℕ) → value_at b [] d ≡ b
unfolding value_at total chosen
no_movement_lem b d = +ℤ_idr b

-- a row's length and its amounts
module _ (b : ℤ) (ms : List Valued) where
  pub length_row : (first n : ℕ) → length (row_of b ms first n) ≡ n
  unfolding row_of
  length_row first zero = refl
  length_row first (suc n) = ap suc (length_row (suc first) n)

  pub row_at : (first n i : ℕ) (z : ℤ) → i < n → get_or (row_of b ms first n) i z ≡ value_at b ms (first + i)
  unfolding row_of
  row_at first zero i z h = absurd (not-suc-le-zero h)
  row_at first (suc n) zero z h = rw (add-zero first)
  row_at first (suc n) (suc i) z h = row_at (suc first) n i z (le_of_suc-le-suc h) ∙ rw (suc-add first i, add-suc first i)
