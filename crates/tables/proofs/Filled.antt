-- Rows put into a table one after another, from the first on.
use mathlib.Core.Path.{◌≡◌, refl, sym, ap, ◌∙◌}
use Prim.Native.Nat.{ℕ, zero, suc, ◌+◌, ◌-◌, ◌<◌, ◌≤◌}
use native.Mathlib.Omega.{arith}
use mathlib.Core.List.{List, [], ◌∷◌, ◌++◌, append_assoc, append-nil}
use lib.ListN.{length, set, take, drop}
use lib.Seq.{take_all}
use Rattle.std.proofs.lemmas.List.{take_more_set}
use Rattle.framing.specs.declared.Form.{Form}
use Rattle.fields.specs.declared.Movement.{Movement}
use Rattle.tables.specs.Tables.{laid}
use Rattle.tables.specs.Steps.{row_step_of, rows_from}

module _ (b : List ℕ) (f : Form) where
  pub rows_length : (at n : ℕ) → length (rows_from b f at n) ≡ n
  unfolding rows_from
  rows_length at zero = refl
  rows_length at (suc n) = ap suc (rows_length (row_step_of b f at).next n)

  -- the rows are those put so far and those still to be read
  pub fill_on : (at n p i : ℕ) (t : List Movement) → i < n → i < length t → take i t ++ rows_from b f p (n - i) ≡ rows_from b f at n
      → take (i + 1) (set t i (row_step_of b f p).row) ++ rows_from b f (row_step_of b f p).next (n - (i + 1)) ≡ rows_from b f at n
  unfolding rows_from
  fill_on at n p i t l h e =
      let r = row_step_of b f p in
      let c : n - i ≡ suc (n - (i + 1)) = omega arith in
      rw (take_more_set t i r.row h) (append_assoc (take i t) (r.row ∷ []) (rows_from b f r.next (n - (i + 1))) ∙ (rw c at e))

  pub fill_end : (at n p i : ℕ) (t u : List Movement) → n ≤ i → length t ≤ i → take i t ++ rows_from b f p (n - i) ≡ rows_from b f at n
      → t ++ drop n u ≡ laid (rows_from b f at n) u
  unfolding rows_from
  fill_end at n p i t u l h e =
      let c : n - i ≡ 0 = omega arith in
      let z : t ≡ rows_from b f at n = sym (append-nil t) ∙ ap (λ x. x ++ []) (sym (take_all i t h)) ∙ (rw c at e) in
      rw (z, rows_length at n)
