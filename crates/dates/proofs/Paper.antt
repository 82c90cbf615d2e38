-- A date as the paper gives it, of whatever meets the contract of reading: 9, or no refusal and the number. The pair determines the answer.
use mathlib.Core.Path.{◌≡◌, refl, sym, ap, ◌∙◌}
use mathlib.Core.List.{List}
use Prim.Native.Nat.{ℕ}
use lib.Dec.{eqb}
use Rattle.zones.specs.Choice.{pick}
use Rattle.dates.specs.Days.{date_of, paper_date}
use Rattle.dates.specs.Answers.{Read}
use Rattle.std.specs.Prelude.{Option, Some, None}

module _ {s : List ℕ} {r : Option ℕ} (g : Read s r) where
  pub date_refused : date_of s ≡ None → paper_date r ≡ (9, 0)
  date_refused p = ap paper_date (g.answer ∙ p)

  pub date_read : {k : ℕ} → date_of s ≡ Some k → paper_date r ≡ (0, k)
  date_read p = ap paper_date (g.answer ∙ p)

abbrev date_from : ℕ × ℕ → Option ℕ
date_from p = pick (eqb p.0 0) (Some p.1) None

from_paper : (r : Option ℕ) → date_from (paper_date r) ≡ r
from_paper (Some k) = refl
from_paper None = refl

pub paper_apart : {r q : Option ℕ} → paper_date r ≡ paper_date q → r ≡ q
paper_apart {r} {q} p = sym (from_paper r) ∙ ap date_from p ∙ from_paper q
