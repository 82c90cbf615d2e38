use Rattle.writer.proofs.Places.{spot_goes, out_goes}
use Rattle.writer.proofs.Spot.put.Goals as goal

pub returns : goal.returns
returns c = (spot_goes c.args.bytes c.args.key c.args.m c.args.complements.now c.args.self c.args.out.now c.reckons.ensures c.if-not-reckons.false c.if-not-size-bytes.false, out_goes c.args.bytes c.args.key c.args.m c.args.complements.now c.args.self c.args.out.now c.reckons.ensures c.if-not-reckons.false c.if-not-size-bytes.false c.put_group.ensures)
