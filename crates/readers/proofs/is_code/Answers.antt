use Rattle.readers.proofs.Walk.{two_bytes}
use Rattle.readers.proofs.is_code.Goals as goal

pub returns : goal.returns
returns c = two_bytes c.args.piece.now c.args.second c.requires
