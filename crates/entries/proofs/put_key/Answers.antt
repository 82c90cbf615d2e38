use Rattle.entries.proofs.Written.{key_put}
use Rattle.zones.proofs.Called.{put_whole}
use borrow.Author.Rules.{rules}
use Rattle.entries.proofs.put_key.Goals as goal

pub returns : goal.returns
returns c = key_put c.args.opening.now c.requires.1 c.args.dst.now c.requires.0 (put_whole c.put.ensures (search rules)) (put_whole c.put-2.ensures (search rules)) (put_whole c.put-3.ensures (search rules)) (put_whole c.put-4.ensures (search rules)) (put_whole c.put-5.ensures (search rules))
