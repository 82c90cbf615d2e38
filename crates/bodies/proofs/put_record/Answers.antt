use mathlib.Core.Path.{sym, ◌∙◌}
use Rattle.zones.proofs.Called.{put_whole}
use Rattle.bodies.proofs.Zeros.{put_marked, put_plain}
use Rattle.bodies.proofs.put_record.Goals as goal

pub returns-then-has_debit_zero : goal.returns-then-has_debit_zero
returns-then-has_debit_zero c =
    put_marked _ c.told-r (put_whole c.put.ensures (c.told-r ∙ sym c.requires)) c.has_debit_zero.ensures c.if-has_debit_zero.true

pub returns-else-has_debit_zero : goal.returns-else-has_debit_zero
returns-else-has_debit_zero c =
    put_plain _ c.told-r (put_whole c.put.ensures (c.told-r ∙ sym c.requires)) c.has_debit_zero.ensures c.if-has_debit_zero.false
