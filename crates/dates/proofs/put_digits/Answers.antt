use mathlib.Core.Path.{◌∙◌}
use mathlib.Core.List.{[], ◌∷◌, append-nil}
use Prim.Native.Nat.{◌/◌, ◌%◌}
use Rattle.zones.specs.Number.{digits_of}
use Rattle.zones.specs.Pieces.{flat}
use Rattle.zones.proofs.Called.{put_digits}
use Rattle.zones.proofs.Decimal.{length_digits}
use Rattle.zones.proofs.Pasted.{filled}
use Rattle.dates.specs.Days.{date_text}
use borrow.Author.Rules.{rules}
use Rattle.dates.proofs.put_digits.Goals as goal

pub returns : goal.returns
unfolding date_text flat
returns c =
    let a = c.args in
    let D = digits_of 2 (a.k % 100) in
    let M = digits_of 2 (a.k / 100 % 100) in
    let Y = digits_of 2 (a.k / 10000 % 100) in
    rw (
      put_digits c.put_number-3.ensures 2 (search rules),
      put_digits c.put_number-2.ensures 2 (search rules),
      put_digits c.put_number.ensures 2 (search rules),
    )
    (filled (2 ∷ 2 ∷ 2 ∷ []) (D ∷ M ∷ Y ∷ []) a.out.now (length_digits 2 _, (length_digits 2 _, (length_digits 2 _, tt))) c.requires
    ∙ rw (append-nil Y))
