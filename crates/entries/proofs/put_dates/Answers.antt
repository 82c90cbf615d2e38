use Rattle.entries.proofs.Written.{dates_put}
use Rattle.zones.proofs.Called.{put_whole}
use borrow.Author.Rules.{rules}
use Rattle.entries.proofs.put_dates.Goals as goal

pub returns : goal.returns
returns c = dates_put c.args.opening.now c.requires.1 c.args.dst.now c.args.closing.now c.requires.0 c.requires.2 (put_whole c.put.ensures (search rules)) (put_whole c.put-2.ensures (search rules))
