use Rattle.framing.proofs.Framing.{unknown, uneven_length, too_many, records, empty, unequal}
use Rattle.framing.proofs.cut_length.Goals as goal

pub returns-then-form-gt2 : goal.returns-then-form-gt2
returns-then-form-gt2 c = record { answer = rw c.at.ensures.answer (unknown _ _ _ _ c.if-form-gt2.true) }

pub returns-then-length-eq0 : goal.returns-then-length-eq0
returns-then-length-eq0 c = record { answer = empty _ _ _ _ c.if-form-gt2.false c.if-width-eq0.true c.if-length-eq0.true }

pub returns-then-width-eq0 : goal.returns-then-width-eq0
returns-then-width-eq0 c = record { answer = rw c.at-then-width-eq0.ensures.answer (unequal _ _ _ _ c.if-form-gt2.false c.if-width-eq0.true c.if-length-eq0.false) }

pub returns-then-length-width-ne0 : goal.returns-then-length-width-ne0
returns-then-length-width-ne0 c = record { answer = rw c.at-then-length-width-ne0.ensures.answer (uneven_length _ _ _ _ c.if-form-gt2.false c.if-length-width-ne0.true) }

pub returns-then-most-count : goal.returns-then-most-count
returns-then-most-count c = record { answer = rw c.at-then-most-count.ensures.answer (too_many _ _ _ _ c.if-form-gt2.false c.if-length-width-ne0.false c.if-most-count.true) }

pub returns : goal.returns
returns c = record { answer = records _ _ _ _ c.if-form-gt2.false c.if-length-width-ne0.false c.if-most-count.false }
