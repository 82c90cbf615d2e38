use mathlib.Core.Bool.{not}
use mathlib.Core.Path.{ap}
use Rattle.journal_layout.proofs.Judging.{other_account, same_account}
use Rattle.journal_layout.proofs.later.Goals as goal

pub returns-then-not-same_key : goal.returns-then-not-same_key
returns-then-not-same_key c = record { answer = other_account c.args.last c.args.form c.args.h.now c.args.s.now c.record_at.ensures.answer c.record_at-2.ensures.answer c.same_key.ensures.answer (ap not c.if-not-same_key.true) }

pub returns : goal.returns
returns c = record { answer = same_account c.args.last c.args.form c.args.h.now c.args.s.now c.record_at.ensures.answer c.record_at-2.ensures.answer c.same_key.ensures.answer c.closing_of.ensures.answer c.look_at-k.ensures.answer (ap not c.if-not-same_key.false) }
