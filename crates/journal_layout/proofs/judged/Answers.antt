use Rattle.journal_layout.proofs.Judging.{begins, found, goes_on, ends}
use Rattle.journal_layout.proofs.judged.Goals as goal

pub loop-e-init : goal.loop-e-init
loop-e-init c = begins c.args.journal.now c.args.count c.args.form c.args.s.now

pub returns-then-same_records : goal.returns-then-same_records
returns-then-same_records c = record { answer = found c.args.journal.now c.args.count c.args.form c.args.s.now c.loop-e.invariant c.loop-e-test.true c.body_at-h.ensures.answer c.same_records.ensures.answer c.if-same_records.true }

pub loop-e-preserved : goal.loop-e-preserved
loop-e-preserved c = goes_on c.args.journal.now c.args.count c.args.form c.args.s.now c.loop-e.invariant c.loop-e-test.true c.body_at-h.ensures.answer c.same_records.ensures.answer c.if-same_records.false c.later-last.ensures.answer

pub returns : goal.returns
returns c = record { answer = ends c.args.journal.now c.args.count c.args.form c.args.s.now c.loop-e.invariant c.loop-e-test.false }
