use mathlib.Core.Bool.{not}
use mathlib.Core.Path.{ap}
use native.Mathlib.Omega.{arith}
use Rattle.journal_layout.proofs.Using.{not_counted, table_there, counted}
use Rattle.journal_layout.proofs.used.Goals as goal

pub returns-then-not-sound : goal.returns-then-not-sound
returns-then-not-sound c = record { answer = rw c.at.ensures.answer (not_counted c.args.journal.now c.sound.ensures.answer (ap not c.if-not-sound.true)) }

pub overflow_sub-result : goal.overflow_sub-result
overflow_sub-result c = omega (arith, table_there c.args.journal.now c.sound.ensures.answer (ap not c.if-not-sound.false))

pub returns : goal.returns
returns c = record { answer = counted c.args.journal.now c.sound.ensures.answer (ap not c.if-not-sound.false) c.first_free-free.ensures.answer }
