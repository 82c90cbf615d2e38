use mathlib.Core.Path.{◌∙◌}
use mir.Facts.{to_z-of_z}
use Rattle.writing.proofs.Filled.{opening_put_lem}
use Rattle.writing.proofs.put_opening.Goals as goal

pub returns : goal.returns
returns c = record { content = (rw (to_z-of_z c.ranges.amount) at c.put_balance.ensures) ∙ opening_put_lem c.args.key c.args.date c.args.amount c.args.out.now }
