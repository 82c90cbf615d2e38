use Rattle.bodies.proofs.Zeros.{same_kept, other_kept}
use Rattle.bodies.proofs.same_record.Goals as goal

pub returns-then-same : goal.returns-then-same
returns-then-same c = same_kept _ _ c.same.ensures.answer c.if-same.true

pub returns-then-has_debit_zero : goal.returns-then-has_debit_zero
returns-then-has_debit_zero c =
    other_kept _ _ c.told-a c.told-b c.same.ensures.answer c.if-same.false c.has_debit_zero.ensures c.has_debit_zero-2.ensures c.if-has_debit_zero.true
