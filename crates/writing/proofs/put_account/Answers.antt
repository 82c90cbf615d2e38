use Rattle.zones.proofs.Called.{put_whole}
use Rattle.writing.proofs.Filled.{account_put, date_put}
use mathlib.Core.Path.{◌≡◌, refl}
use lib.ListN.{replicate}
use borrow.Author.Rules.{rules}
use Rattle.writing.proofs.put_account.Goals as goal

pub returns : goal.returns
returns c =
    let k = c.args.key in
    let named : c.put.new.dst ≡ k.currency = put_whole c.put.ensures (search rules) in
    account_put 0 k (replicate 4 32) c.args.operation c.args.date (search rules) refl (search rules) c.args.out.now c.requires.0
    named
    (put_whole c.put-2.ensures (search rules))
    (put_whole c.put-3.ensures (search rules))
    (put_whole c.put-4.ensures (search rules))
    (date_put c.put-5.ensures (search rules) c.requires.1)
