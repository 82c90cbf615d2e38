use mathlib.Core.Path.{◌≡◌}
use mir.Syntax.{w64}
use mir.Val.{to_z, of_z}
use mir.Facts.{to_z-of_z}
use Rattle.zones.proofs.Bools.{disj}
use Rattle.writing.proofs.Tested.{posting_tested}
use borrow.Author.Rules.{rules}
use Rattle.writing.proofs.posting_fits.Goals as goal

pub returns : goal.returns
returns c =
    let m = c.args.m in
    let whole : to_z w64 (of_z w64 m.amount) ≡ m.amount = to_z-of_z {w = w64} (search rules) in
    posting_tested m (search rules) c.permitted.ensures.answer c.alnums.ensures.answer c.is_day.ensures.answer (disj c.digits.ensures.answer c.blanks.ensures.answer) c.is_day-2.ensures.answer c.permitted-2.ensures.answer c.is_flag.ensures c.is_flag-2.ensures (rw whole at c.has_amount.ensures.answer) c.permitted-3.ensures.answer
