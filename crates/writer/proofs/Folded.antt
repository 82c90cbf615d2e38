-- The rows from one on: the next one, or none. Past the last row a table is read as d.
use mathlib.Core.Path.{◌≡◌, refl, ap, ◌∙◌}
use Rattle.std.specs.Prelude.{Some, None}
use mathlib.Core.List.{List, ◌∷◌}
use Prim.Native.Nat.{ℕ, ◌+◌, ◌<◌, ◌≤◌}
use native.Mathlib.Numerals.{add-one}
use lib.ListN.{length, drop, get_or, drop_of_length-le}
use lib.Seq.{drop-cons}
use Rattle.grammar.specs.declared.Key.{Key}
use Rattle.fields.specs.declared.Movement.{Movement}
use Rattle.contents.specs.declared.Head.{Head}
use Rattle.writer.specs.declared.Tally.{Tally}
use Rattle.writer.specs.declared.Spot.{Spot}
use Rattle.writer.specs.Test.{tally_of, tallied}
use Rattle.writer.specs.Steps.{spot_of, row_put, rows_put}

next_row : (ts : List Movement) (k : ℕ) (d : Movement) → k < length ts → drop k ts ≡ get_or ts k d ∷ drop (k + 1) ts
next_row ts k d l = rw (add-one k) (drop-cons ts k d l)

pub tally_step : (h : Head) (s : Tally) (ts : List Movement) (cs : List ℕ) (k : ℕ) (d : Movement) → k < length ts
    → tallied h (Some s) (drop k ts) cs ≡ tallied h (tally_of h s (get_or ts k d) cs) (drop (k + 1) ts) cs
unfolding tallied
tally_step h s ts cs k d l = ap (λ (rows : List Movement). tallied h (Some s) rows cs) (next_row ts k d l)

pub tally_over : (h : Head) (s : Tally) (ts : List Movement) (cs : List ℕ) (k : ℕ) → length ts ≤ k → tallied h (Some s) (drop k ts) cs ≡ Some s
unfolding tallied
tally_over h s ts cs k l = ap (λ (rows : List Movement). tallied h (Some s) rows cs) (drop_of_length-le ts l)

pub tally_none : (h : Head) (rows : List Movement) (cs : List ℕ) → tallied h None rows cs ≡ None
unfolding tallied
tally_none h rows cs = refl

pub tally_stop : (h : Head) (s : Tally) (ts : List Movement) (cs : List ℕ) (k : ℕ) (d : Movement) → k < length ts → tally_of h s (get_or ts k d) cs ≡ None
    → tallied h (Some s) (drop k ts) cs ≡ None
tally_stop h s ts cs k d l e = tally_step h s ts cs k d l ∙ ap (λ u. tallied h u (drop (k + 1) ts) cs) e ∙ tally_none h (drop (k + 1) ts) cs

module _ (bytes : ℕ) (key : Key) (ts : List Movement) (cs : List ℕ) (k : ℕ) (p : Spot) (zs : List ℕ) where
  pub put_step : (d : Movement) → k < length ts
      → rows_put bytes key (drop k ts) cs p zs ≡ rows_put bytes key (drop (k + 1) ts) cs (spot_of bytes (get_or ts k d) (length cs) (length zs) p) (row_put bytes key (get_or ts k d) cs p zs)
  unfolding rows_put
  put_step d l = ap (λ (rows : List Movement). rows_put bytes key rows cs p zs) (next_row ts k d l)

  pub put_over : length ts ≤ k → rows_put bytes key (drop k ts) cs p zs ≡ zs
  unfolding rows_put
  put_over l = ap (λ (rows : List Movement). rows_put bytes key rows cs p zs) (drop_of_length-le ts l)
