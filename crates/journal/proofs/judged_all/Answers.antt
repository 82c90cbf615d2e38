use Rattle.journal.specs.Plans.{parts_of}
use Rattle.journal.proofs.Judging.{held_already, planned_says}
use Rattle.journal.proofs.judged_all.Goals as goal

pub returns-then-is_held : goal.returns-then-is_held
returns-then-is_held c = let a = c.args in held_already a.journal.now a.held a.parts.form (parts_of a.parts.bounds.now a.parts.file.now) a.s.now c.judged-last.ensures.answer c.is_held.ensures c.if-is_held.true

pub returns : goal.returns
returns c = let a = c.args in planned_says a.journal.now a.held a.parts.form (parts_of a.parts.bounds.now a.parts.file.now) a.s.now c.judged-last.ensures.answer c.is_held.ensures c.if-is_held.false c.judged_planned.ensures
