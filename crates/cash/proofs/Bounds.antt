-- No sum of some of an account's movements passes 64 bits, and none on top of the first balance does:
-- twice the sum is the first balance, the last one, and the movements counted less the others.
use mathlib.Core.Path.{◌≡◌, sym, ap, ◌∙◌}
use mathlib.Core.Bool.{Bool}
use mathlib.Core.List.{List}
use Prim.Native.Nat.{ℕ, ◌^◌, ◌<◌, ◌≤◌}
use native.Mathlib.Omega.{arith}
use lib.ListN.{take}
use lib.IntN.{ℤ, nat_abs, neg_ℤ, ◌+ℤ◌}
use Rattle.amounts.proofs.Whole.{abs_add}
use Rattle.fields.specs.declared.Valued.{Valued}
use Rattle.cash.specs.Value.{total, chosen, value_at}
use Rattle.cash.proofs.Tied.{most_sum, Tied, Part}
use Rattle.cash.proofs.Group.{medial, double_abs, abs_neg, take_off}
use Rattle.cash.proofs.Parts.{apart, twice, apart_small, part_chosen, part_take, part_part}

pub fits : most_sum < 2 ^ 63
fits = omega arith

module _ {first last : ℤ} {ms : List Valued} (t : Tied first last ms) where
  pub sum_bound : {ts : List Valued} → Part ts ms → nat_abs (first +ℤ total ts) ≤ most_sum
  sum_bound {ts} p =
      let x = first +ℤ total ts in
      let e : x +ℤ x ≡ last +ℤ (first +ℤ apart p) =
      medial first (total ts) first (total ts) ∙ rw (twice p) (medial first first (total ms) (apart p) ∙ rw t.tie) in
      omega (
        arith,
        double_abs x,
        ap nat_abs e,
        abs_add last (first +ℤ apart p),
        abs_add first (apart p),
        apart_small p t.each,
        t.opens,
        t.closes,
        t.few,
      )

  pub part_bound : {ts : List Valued} → Part ts ms → nat_abs (total ts) ≤ most_sum
  part_bound {ts} p =
      let w : total ms ≡ neg_ℤ first +ℤ last = sym (take_off first (total ms)) ∙ rw t.tie in
      omega (
        arith,
        double_abs (total ts),
        ap nat_abs (twice p),
        abs_add (total ms) (apart p),
        ap nat_abs w,
        abs_add (neg_ℤ first) last,
        abs_neg first,
        apart_small p t.each,
        t.opens,
        t.closes,
        t.few,
      )

  -- the balance of a day, and every sum on the way to it
  pub balance_bound : (day : ℕ) → nat_abs (value_at first ms day) ≤ most_sum
  unfolding value_at
  balance_bound day = sum_bound (part_chosen _ ms)

  pub way_bound : (p : Valued → Bool) (n : ℕ) → nat_abs (first +ℤ total (chosen p (take n ms))) ≤ most_sum
  way_bound p n = sum_bound (part_part (part_take n ms) (part_chosen p (take n ms)))

  pub way_part_bound : (p : Valued → Bool) (n : ℕ) → nat_abs (total (chosen p (take n ms))) ≤ most_sum
  way_part_bound p n = part_bound (part_part (part_take n ms) (part_chosen p (take n ms)))
