-- The definition of a date at each return of `read`.
use mathlib.Core.Path.{◌≡◌, sym, ◌∙◌}
use mathlib.Core.Bool.{Bool, true, false, and-false}
use mathlib.Core.List.{List}
use Prim.Native.Nat.{ℕ, ◌<◌, ◌≤◌}
use native.Mathlib.Omega.{arith}
use lib.Dec.{eqb}
use lib.ListN.{length, take, drop}
use borrow.Author.Tests.{ne_eqb, eq-eqb}
use Rattle.zones.specs.Class.{digit, all}
use Rattle.zones.specs.Answers.{Tested, Number}
use Rattle.zones.proofs.Called.{number_value, number_below}
use Rattle.dates.specs.Days.{year_of, day_of, date_of}
use Rattle.std.specs.Prelude.{None}
use Rattle.dates.proofs.RoundTrip.{pair, pair_digits}

module _ (s : List ℕ) where
  pub read_short : (length s ≡ 6 → ⊥) → None ≡ date_of s
  unfolding date_of
  read_short h = rw (ne_eqb (length s) 6 h)

  pub read_undigit : {r : Bool} → Tested digit s r → r ≡ false → None ≡ date_of s
  unfolding date_of
  read_undigit t e = rw (sym t.answer ∙ e, and-false (eqb (length s) 6))

  module _ (l : length s ≡ 6) {r : Bool} (t : Tested digit s r) (e : r ≡ true) where
    digits : all digit s ≡ true
    digits = sym t.answer ∙ e

    -- a pair of digits as the code has it
    pub pair_small : {v : ℕ} (n : ℕ) → n ≤ 4 → Number (take 2 (drop n s)) v → v < 100
    pair_small n h q = number_below q 2 (pair s l digits n h) (omega arith) (pair_digits s l digits n)

    pub read_whole : {d m y : ℕ} → Number (take 2 s) d → Number (take 2 (drop 2 s)) m → Number (take 2 (drop 4 s)) y
        → day_of (year_of y) m d ≡ date_of s
    unfolding date_of
    read_whole a b c =
        let w : (n : ℕ) → n ≤ 4 → length (take 2 (drop n s)) ≤ 19 = λ n h. omega (arith, pair s l digits n h) in
        rw (
          number_value a (w 0 (omega arith)),
          number_value b (w 2 (omega arith)),
          number_value c (w 4 (omega arith)),
          eq-eqb (length s) 6 l,
          digits,
        )

module _ (s : List ℕ) {v : ℕ} {r : Bool} (l : length s ≡ 6) (t : Tested digit s r) (e : r ≡ true) where
  pub first_small : Number (take 2 s) v → v < 100
  first_small = pair_small s l t e 0 (omega arith)

  pub middle_small : Number (take 2 (drop 2 s)) v → v < 100
  middle_small = pair_small s l t e 2 (omega arith)

  pub last_small : Number (take 2 (drop 4 s)) v → v < 100
  last_small = pair_small s l t e 4 (omega arith)

pub ruleset reading = (first_small, middle_small, read_short, read_undigit, read_whole)
