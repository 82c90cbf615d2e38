use Rattle.records.proofs.Looking.{part_permitted}
use Rattle.records.proofs.Seen.movement_zones.Goals as goal

pub text_permitted-requires : goal.text_permitted-requires
text_permitted-requires c = let s = c.args.self.now in part_permitted 31 48 s.r.now s.told

pub text_permitted-requires-2 : goal.text_permitted-requires-2
text_permitted-requires-2 c = let s = c.args.self.now in part_permitted 16 104 s.r.now s.told
