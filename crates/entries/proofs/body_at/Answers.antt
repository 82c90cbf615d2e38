use native.Mathlib.Omega.{arith}
use Rattle.entries.proofs.Found.{used_small, none_unused, none_short, body_there}
use Rattle.entries.proofs.body_at.Goals as goal

pub returns-in_default : goal.returns-in_default
returns-in_default c = record { answer = none_unused c.args.journal.now c.args.e c.in_default.ensures.answer }

pub overflow_mul-a : goal.overflow_mul-a
overflow_mul-a c = let s = used_small c.in-Some.ensures in omega (arith, s.first)

pub overflow_add-a : goal.overflow_add-a
overflow_add-a c = let s = used_small c.in-Some.ensures in omega (arith, s.first)

pub overflow_mul-z : goal.overflow_mul-z
overflow_mul-z c = let s = used_small c.in-Some.ensures in omega (arith, s.records)

pub overflow_add-z : goal.overflow_add-z
overflow_add-z c = let s = used_small c.in-Some.ensures in omega (arith, s.first, s.records)

pub returns-then-journal-z : goal.returns-then-journal-z
returns-then-journal-z c = record { answer = none_short c.args.journal.now c.args.e c.in-Some.ensures.answer c.if-journal-z.true }

pub returns : goal.returns
returns c = record { answer = body_there c.args.journal.now c.args.e c.in-Some.ensures.answer c.if-journal-z.false }
