use Rattle.writing.proofs.Tested.{RowWide}
use mathlib.Core.Path.{◌≡◌}
use Rattle.zones.proofs.Called.{put_whole}
use Rattle.writing.proofs.Filled.{middle_put, date_put}
use borrow.Author.Rules.{rules}
use Rattle.writing.proofs.put_middle.Goals as goal

pub returns : goal.returns
returns c =
    let m = c.args.m in
    let wide : RowWide m = search rules in
    let rejected : c.put.new.dst ≡ m.reject = put_whole c.put.ensures (search rules) in
    middle_put m wide c.args.out.now c.requires.0 rejected
    (date_put c.put-2.ensures (search rules) c.requires.1)
    (put_whole c.put-3.ensures (search rules))
    (put_whole c.put-4.ensures (search rules))
