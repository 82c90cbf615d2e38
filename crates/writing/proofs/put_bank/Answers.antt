use Rattle.zones.proofs.Called.{put_whole}
use Rattle.writing.proofs.Filled.{bank_put}
use mathlib.Core.List.{[], ◌∷◌}
use mathlib.Core.Path.{◌≡◌, refl}
use lib.ListN.{replicate}
use borrow.Author.Rules.{rules}
use Rattle.writing.proofs.put_bank.Goals as goal

pub returns : goal.returns
returns c =
    let coded : c.put.new.dst ≡ 48 ∷ c.args.code ∷ [] = put_whole c.put.ensures (search rules) in
    bank_put c.args.code c.args.key c.args.internal (replicate 2 32) 0 (search rules) (search rules) refl c.args.out.now c.requires
    coded
    (put_whole c.put-2.ensures (search rules))
    (put_whole c.put-3.ensures (search rules))
    (put_whole c.put-4.ensures (search rules))
