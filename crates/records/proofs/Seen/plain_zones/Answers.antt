use Rattle.records.proofs.Looking.{part_permitted}
use Rattle.records.proofs.Seen.plain_zones.Goals as goal

pub text_permitted-requires : goal.text_permitted-requires
text_permitted-requires c = let s = c.args.self.now in part_permitted 70 48 s.r.now s.told
