use Rattle.entries.proofs.Written.{place_put}
use Rattle.zones.proofs.Called.{put_whole, put_digits}
use borrow.Author.Rules.{rules}
use Rattle.entries.proofs.put_place.Goals as goal

pub returns : goal.returns
returns c = place_put c.args.dst.now c.args.first c.args.records c.requires (put_digits c.put_number.ensures 6 (search rules)) (put_digits c.put_number-2.ensures 4 (search rules)) (put_whole c.put.ensures (search rules))
