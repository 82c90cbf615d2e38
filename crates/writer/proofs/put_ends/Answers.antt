use mathlib.Core.Path.{◌≡◌}
use mir.Syntax.{w64}
use mir.Val.{to_z, of_z}
use mir.Facts.{to_z-of_z}
use Rattle.writer.proofs.Ends.{ends_put_lem}
use borrow.Author.Rules.{rules}
use Rattle.writer.proofs.put_ends.Goals as goal

pub returns : goal.returns
returns c =
    let old : to_z w64 (of_z w64 c.args.head.old_balance) ≡ c.args.head.old_balance = to_z-of_z {w = w64} (search rules) in
    let new : to_z w64 (of_z w64 c.args.head.new_balance) ≡ c.args.head.new_balance = to_z-of_z {w = w64} (search rules) in
    ends_put_lem c.args.bytes c.args.head c.args.out.now c.if-not-bytes-out.false (rw old at c.put_opening.ensures.content) (rw new at c.put_closing.ensures.content)
