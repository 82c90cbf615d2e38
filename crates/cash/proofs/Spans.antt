-- Spans in days YYYYMMDD and in ordinals give the same row.
use mathlib.Core.Path.{◌≡◌, refl, sym, ap, ◌∙◌}
use mathlib.Core.Bool.{Bool, true, false}
use mathlib.Core.List.{List, [], ◌∷◌, map}
use Prim.Native.Nat.{ℕ, zero, suc, ◌+◌, ◌<◌, ◌≤◌}
use native.Mathlib.Nat.{add-zero, le_of_suc-le-suc, not-suc-le-zero}
use native.Mathlib.Omega.{arith}
use lib.Dec.{leb, eqb}
use lib.ListN.{get_or, length-map}
use lib.IntN.{ℤ, ◌+ℤ◌}
use Rattle.zones.specs.Choice.{pick}
use Rattle.dates.specs.Days.{is_day}
use Rattle.framing.specs.Files.{All}
use Rattle.dates.specs.Ordinals.{all_days, ordinal_of, of_ordinal, next_day}
use Rattle.dates.proofs.Ordinals.{ordinal_leb, ordinal_eqb, next_day_lem, next_ordinal, of_ordinal_lem}
use Rattle.fields.specs.declared.Valued.{Valued}
use Rattle.cash.specs.Value.{total, chosen, value_at, sum_on}
use Rattle.cash.specs.Spans.{days_from}
use Rattle.cash.specs.Buckets.{row_of, dated}
use Rattle.cash.proofs.Tied.{Small, Tied}
use Rattle.cash.proofs.Rows.{next_amount}

-- movements whose value dates are days
abbrev pub Days : List Valued → Type 0
Days = All (λ (m : Valued). is_day m.value ≡ true)

total_dated : (p q : Valued → Bool) (ms : List Valued) → All (λ (m : Valued). p m ≡ q (dated m)) ms → total (chosen p ms) ≡ total (chosen q (map dated ms))
unfolding total chosen
total_dated p q [] a = refl
total_dated p q (m ∷ ms) a = rw a.0 (by (q (dated m)) (total_dated p q ms a.1))
  where
    by : (t : Bool) → total (chosen p ms) ≡ total (chosen q (map dated ms))
        → total (pick t (m ∷ chosen p ms) (chosen p ms)) ≡ total (pick t (dated m ∷ chosen q (map dated ms)) (chosen q (map dated ms)))
    by true i = rw i
    by false i = i

each_day : {P : Valued → Type 0} → ((m : Valued) → is_day m.value ≡ true → P m) → (ms : List Valued) → Days ms → All P ms
each_day f [] a = tt
each_day f (m ∷ ms) a = (f m a.0, each_day f ms a.1)

pub dated_balance : (b : ℤ) (ms : List Valued) (k : ℕ) → Days ms → is_day k ≡ true → value_at b ms k ≡ value_at b (map dated ms) (ordinal_of k)
unfolding value_at
dated_balance b ms k a h =
    ap (λ z. b +ℤ z)
    (total_dated (λ m. leb m.value k) (λ m. leb m.value (ordinal_of k)) ms (each_day (λ m d. sym (ordinal_leb m.value k d h)) ms a))

pub dated_sum : (ms : List Valued) (k : ℕ) → Days ms → is_day k ≡ true → sum_on ms k ≡ sum_on (map dated ms) (ordinal_of k)
unfolding sum_on
dated_sum ms k a h =
    total_dated (λ m. eqb m.value k) (λ m. eqb m.value (ordinal_of k)) ms (each_day (λ m d. sym (ordinal_eqb m.value k d h)) ms a)

-- the next day's amount is the day's and the sum of the movements valued that next day
pub next_day_amount : (b : ℤ) (ms : List Valued) (k : ℕ) → Days ms → is_day k ≡ true → suc (ordinal_of k) < all_days
    → value_at b ms (next_day k) ≡ value_at b ms k +ℤ sum_on ms (next_day k)
next_day_amount b ms k a h l =
    let d = next_day_lem k h l in
    rw (dated_balance b ms (next_day k) a d, dated_balance b ms k a h, dated_sum ms (next_day k) a d, next_ordinal k h l) (next_amount b (map dated ms) (ordinal_of k))

-- an amount for each day of a span
abbrev pub amounts : ℤ → List Valued → (first n : ℕ) → List ℤ
amounts b ms first n = map (value_at b ms) (days_from first n)

-- the row in days is the row in ordinals
pub amounts_row : (b : ℤ) (ms : List Valued) → Days ms → (k n : ℕ) → is_day k ≡ true → ordinal_of k + n ≤ all_days → amounts b ms k n ≡ row_of b (map dated ms) (ordinal_of k) n
unfolding days_from row_of
amounts_row b ms a k zero h l = refl
amounts_row b ms a k (suc zero) h l = rw (dated_balance b ms k a h)
amounts_row b ms a k (suc (suc n)) h l =
    let g : suc (ordinal_of k) < all_days = omega arith in
    let d = next_day_lem k h g in
    let e = next_ordinal k h g in
    let i : amounts b ms (next_day k) (suc n) ≡ row_of b (map dated ms) (suc (ordinal_of k)) (suc n) = rw (← e) (amounts_row b ms a (next_day k) (suc n) d (omega (arith, e))) in
    rw (dated_balance b ms k a h) (ap (λ xs. value_at b (map dated ms) (ordinal_of k) ∷ xs) i)

-- the days of a span
pub day_at : (k n i : ℕ) → is_day k ≡ true → ordinal_of k + n ≤ all_days → i < n → get_or (days_from k n) i 0 ≡ of_ordinal (ordinal_of k + i)
unfolding days_from
day_at k zero i h l g = absurd (not-suc-le-zero g)
day_at k (suc n) zero h l g = sym (rw (add-zero (ordinal_of k)) (of_ordinal_lem k h))
day_at k (suc zero) (suc i) h l g = absurd (omega arith)
day_at k (suc (suc n)) (suc i) h l g =
    let m : suc (ordinal_of k) < all_days = omega arith in
    let e = next_ordinal k h m in
    let s : suc (ordinal_of k) + i ≡ ordinal_of k + suc i = omega arith in
    day_at (next_day k) (suc n) i (next_day_lem k h m) (omega (arith, e)) (le_of_suc-le-suc g) ∙ rw (e, s)

total_same : (xs : List Valued) → total (map dated xs) ≡ total xs
unfolding total
total_same [] = refl
total_same (x ∷ xs) = rw (total_same xs)

-- what the journal promises of the movements stays true of them with ordinals
pub tied_dated : {b c : ℤ} (ms : List Valued) → Tied b c ms → Tied b c (map dated ms)
tied_dated {b} {c} ms t =
    record { opens = t.opens; closes = t.closes; each = small ms t.each; few = rw (length-map ms dated) t.few; tie = rw (total_same ms) t.tie }
  where
    small : (xs : List Valued) → All (λ (m : Valued). Small m.amount) xs → All (λ (m : Valued). Small m.amount) (map dated xs)
    small [] a = tt
    small (x ∷ xs) a = (a.0, small xs a.1)
