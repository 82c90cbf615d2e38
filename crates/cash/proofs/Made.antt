-- From one loop to the next: what the journal promises of an account gives room to every sum on the way.
use mathlib.Core.Path.{◌≡◌}
use mathlib.Core.List.{List, map}
use Prim.Native.Nat.{ℕ, zero, suc, ◌-◌, ◌^◌, ◌<◌}
use native.Mathlib.Omega.{arith}
use lib.ListN.{length-replicate}
use lib.IntN.{ℤ, pos, nat_abs}
use Rattle.framing.specs.Files.{All}
use Rattle.fields.specs.declared.Valued.{Valued}
use mathlib.Core.Bool.{true}
use Rattle.journal_layout.specs.Test.{sound_in, held_of}
use Rattle.journal.specs.Arrivals.{last_balance}
use Rattle.journal.specs.Newest.{key_from}
use Rattle.journal.proofs.Promises.{promise}
use Rattle.cash.specs.Value.{movements_of}
use Rattle.cash.specs.Buckets.{dated, row_of, running, filled, opened}
use Rattle.cash.specs.Calls.{Room, Filling, Runs, Opening}
use Rattle.cash.proofs.Tied.{Tied}
use Rattle.cash.proofs.Bounds.{fits, balance_bound}
use Rattle.cash.proofs.Tables.{step_bound, by_table}
use Rattle.cash.proofs.Spans.{tied_dated}
use Rattle.cash.proofs.Account.{account_tied}

row_small : {b c : ℤ} {ms : List Valued} → Tied b c ms → (first n : ℕ) → All (λ (z : ℤ). nat_abs z < 2 ^ 63) (row_of b ms first n)
unfolding row_of
row_small t first zero = tt
row_small t first (suc n) = (omega (arith, balance_bound t first, fits), row_small t (suc first) n)

module _ {b : ℤ} {j x : List ℕ} (s : sound_in j ≡ true) (p : Opening b j x) where
  abbrev ms : List Valued
  ms = movements_of (key_from x) (held_of j)

  tied : Tied b (last_balance p.first p.rest) (map dated ms)
  tied = rw p.balance (tied_dated ms (account_tied (promise j s) (key_from x) p.first p.rest p.list))

  room : (first n : ℕ) → Room (opened b n) first (map dated ms)
  room first n xs ys m e l =
      omega (arith, step_bound tied first n xs ys m e (omega (arith, l, length-replicate {A = ℤ} n (pos 0))), fits)

  pub fill_ready : {t : List ℤ} (first n : ℕ) → t ≡ opened b n → Filling t first j x
  fill_ready first n e = record { key = p.key; room = rw e (room first n) }

  pub run_ready : {t u : List ℤ} (first n : ℕ) → t ≡ opened b n → u ≡ filled first t (map dated ms) → Runs u
  run_ready first n e f = rw (f, e, by_table b (map dated ms) first n) (row_small tied first (suc n))

pub row_made : {b : ℤ} {t u v : List ℤ} {n : ℕ} (ms : List Valued) (first : ℕ) → 0 < n → t ≡ opened b (n - 1) → v ≡ running (pos 0) u → u ≡ filled first t ms → v ≡ row_of b ms first n
row_made {b} {t} {u} {v} {n} ms first h e g f =
    let s : suc (n - 1) ≡ n = omega arith in
    rw (g, f, e, by_table b ms first (n - 1), s)
