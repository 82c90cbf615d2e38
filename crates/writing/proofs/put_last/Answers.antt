use mathlib.Core.List.{[], ◌∷◌}
use Rattle.zones.specs.Number.{digits_of}
use Rattle.writing.proofs.Tested.{RowWide}
use mathlib.Core.Path.{◌≡◌}
use mir.Syntax.{w64}
use mir.Val.{to_z, of_z}
use mir.Facts.{to_z-of_z}
use Rattle.zones.proofs.Called.{put_whole, put_digits}
use Rattle.writing.proofs.Filled.{last_put, amount_put}
use borrow.Author.Rules.{rules}
use Rattle.writing.proofs.put_last.Goals as goal

pub returns : goal.returns
returns c =
    let m = c.args.m in
    let whole : to_z w64 (of_z w64 m.amount) ≡ m.amount = to_z-of_z {w = w64} (search rules) in
    let wide : RowWide m = search rules in
    let numbered : c.put_number.new.out ≡ digits_of 7 m.entry = put_digits c.put_number.ensures 7 (search rules) in
    let flagged : c.put.new.dst ≡ m.exempt ∷ m.unavailable ∷ [] = put_whole c.put.ensures (search rules) in
    last_put m wide c.args.out.now c.requires.0 numbered flagged
    (amount_put (rw whole at c.put-2.ensures) (search rules) c.requires.1)
    (put_whole c.put-3.ensures (search rules))
