-- An amount as the paper gives it, of whatever meets the contract of reading: 8, or no refusal and the value. The pair determines the answer.
use mathlib.Core.Path.{◌≡◌, refl, sym, ap, ◌∙◌}
use mathlib.Core.Bool.{true, false}
use mathlib.Core.List.{List}
use Prim.Native.Nat.{ℕ}
use lib.Dec.{eqb}
use lib.IntN.{ℤ, pos}
use Rattle.zones.specs.Choice.{pick}
use Rattle.amounts.specs.Amounts.{is_amount, is_debit, magnitude, signed_of, amount_of, paper_amount}
use Rattle.amounts.specs.Answers.{Read}
use Rattle.std.specs.Prelude.{Option, Some, None}

module _ {s : List ℕ} {r : Option ℤ} (g : Read s r) where
  pub amount_refused : is_amount s ≡ false → paper_amount r ≡ (8, pos 0)
  unfolding amount_of
  amount_refused p = ap paper_amount g.answer ∙ rw p

  pub amount_read : is_amount s ≡ true → paper_amount r ≡ (0, signed_of (is_debit s) (magnitude s))
  unfolding amount_of
  amount_read p = ap paper_amount g.answer ∙ rw p

abbrev amount_from : ℕ × ℤ → Option ℤ
amount_from p = pick (eqb p.0 0) (Some p.1) None

from_paper : (r : Option ℤ) → amount_from (paper_amount r) ≡ r
from_paper (Some v) = refl
from_paper None = refl

pub paper_apart : {r q : Option ℤ} → paper_amount r ≡ paper_amount q → r ≡ q
paper_apart {r} {q} p = sym (from_paper r) ∙ ap amount_from p ∙ from_paper q
