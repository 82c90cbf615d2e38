-- The loops over the table alone: what holds of it at each turn, and numbers as their bits.
use mathlib.Core.Path.{◌≡◌, sym, ◌∙◌}
use mathlib.Core.List.{List, [], ◌∷◌}
use Prim.Native.Nat.{ℕ, zero, suc, ◌+◌, ◌^◌, ◌<◌, ◌≤◌}
use native.Mathlib.Nat.{le_of_suc-le-suc, not-suc-le-zero}
use native.Mathlib.Numerals.{add-one}
use native.Mathlib.Omega.{arith}
use lib.ListN.{length, get_or, set, take, drop, length-set}
use lib.Seq.{take-suc, take_all, drop-cons, take-suc-set, drop-set-lt}
use mir.Syntax.{w64}
use mir.Val.{SFits, to_z, of_z}
use mir.Facts.{to_z-of_z}
use lib.IntN.{ℤ, pos, nat_abs, ◌+ℤ◌}
use Rattle.amounts.proofs.Whole.{fits_abs}
use Rattle.framing.specs.Files.{All}
use Rattle.cash.specs.Buckets.{running}
use Rattle.cash.specs.Calls.{Runs}
use Rattle.cash.proofs.Tables.{length_running}

-- the first i places have their running sums, and the rest follow
pub record Ran (t now : List ℤ) (sum : ℤ) (i : ℕ) : Type 0 where
  pub long : length now ≡ length t
  pub done : take i now ≡ take i (running (pos 0) t)
  pub rest : running sum (drop i now) ≡ drop i (running (pos 0) t)

all_at : (P : ℤ → Type 0) (d : ℤ) (xs : List ℤ) (i : ℕ) → All P xs → i < length xs → P (get_or xs i d)
all_at P d [] i a h = absurd (not-suc-le-zero h)
all_at P d (x ∷ xs) zero a h = a.0
all_at P d (x ∷ xs) (suc i) a h = all_at P d xs i a.1 (le_of_suc-le-suc h)

begun : (now : List ℤ) (i : ℕ) (sum : ℤ) → i < length now
    → (sum +ℤ get_or now i (pos 0)) ∷ running (sum +ℤ get_or now i (pos 0)) (drop (suc i) now) ≡ running sum (drop i now)
unfolding running
begun now i sum h = rw (drop-cons now i (pos 0) h)

module _ {t now : List ℤ} {sum : ℤ} {i : ℕ} (r : Ran t now sum i) where
  module _ (h : i < length now) where
    inside : i < length (running (pos 0) t)
    inside = omega (arith, length_running (pos 0) t, r.long)

    both : (sum +ℤ get_or now i (pos 0)) ∷ running (sum +ℤ get_or now i (pos 0)) (drop (suc i) now) ≡ get_or (running (pos 0) t) i (pos 0) ∷ drop (suc i) (running (pos 0) t)
    both = begun now i sum h ∙ r.rest ∙ drop-cons (running (pos 0) t) i (pos 0) inside

    here : sum +ℤ get_or now i (pos 0) ≡ get_or (running (pos 0) t) i (pos 0)
    here = let e = both in cc

    ran_next : Ran t (set now i (sum +ℤ get_or now i (pos 0))) (sum +ℤ get_or now i (pos 0)) (i + 1)
    ran_next =
        let v = sum +ℤ get_or now i (pos 0) in
        rw (add-one i)
        (record {
          long = length-set now i v ∙ r.long;
          done = take-suc-set now i v h ∙ rw (r.done, here) (sym (take-suc (running (pos 0) t) i (pos 0) inside));
          rest = rw (drop-set-lt (suc i) now i v (omega arith)) (let e = both in cc);
        })

  pub ran_bound : Runs t → i < length now → nat_abs (sum +ℤ get_or now i (pos 0)) < 2 ^ 63
  ran_bound a h = rw (here h) (all_at (λ (z : ℤ). nat_abs z < 2 ^ 63) (pos 0) (running (pos 0) t) i a (inside h))

  pub ran_end : length now ≤ i → now ≡ running (pos 0) t
  ran_end h =
      sym (take_all i now h) ∙ r.done ∙ take_all i (running (pos 0) t) (omega (arith, length_running (pos 0) t, r.long))

pub ran_again : {t now : List ℤ} {sum : ℤ} {i : ℕ} → Runs t → Ran t now sum i → i < length now → SFits w64 (get_or now i (pos 0))
    → Ran t (set now i (to_z w64 (of_z w64 (sum +ℤ to_z w64 (of_z w64 (get_or now i (pos 0))))))) (to_z w64 (of_z w64 (sum +ℤ to_z w64 (of_z w64 (get_or now i (pos 0)))))) (i + 1)
ran_again {t} {now} {sum} {i} a r h f = rw (to_z-of_z f, to_z-of_z (fits_abs (sum +ℤ get_or now i (pos 0)) (ran_bound r a h))) (ran_next r h)
