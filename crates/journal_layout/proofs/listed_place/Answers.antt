use mathlib.Core.Bool.{not}
use mathlib.Core.Path.{ap}
use native.Mathlib.Omega.{arith}
use Rattle.journal_layout.proofs.Listing.{not_long, listed_none, numbered_short, numbered_found}
use Rattle.journal_layout.proofs.Places.{numbered_small}
use Rattle.journal_layout.proofs.listed_place.Goals as goal

pub returns-then-not-is_length : goal.returns-then-not-is_length
returns-then-not-is_length c = record { answer = rw c.at.ensures.answer (not_long c.args.journal.now c.args.e c.is_length.ensures (ap not c.if-not-is_length.true)) }

pub returns-in_default : goal.returns-in_default
returns-in_default c = record { answer = rw c.at-in_default.ensures.answer (listed_none c.args.journal.now c.args.e c.is_length.ensures (ap not c.if-not-is_length.false) c.in_default.ensures) }

pub overflow_mul-first : goal.overflow_mul-first
overflow_mul-first c = let s = numbered_small c.args.journal.now c.args.e c.in-Some.ensures in omega (arith, s.first)

pub overflow_add-first : goal.overflow_add-first
overflow_add-first c = let s = numbered_small c.args.journal.now c.args.e c.in-Some.ensures in omega (arith, s.first)

pub overflow_mul-len : goal.overflow_mul-len
overflow_mul-len c = let s = numbered_small c.args.journal.now c.args.e c.in-Some.ensures in omega (arith, s.records)

pub overflow_add-first-2 : goal.overflow_add-first-2
overflow_add-first-2 c = let s = numbered_small c.args.journal.now c.args.e c.in-Some.ensures in omega (arith, s.first, s.records)

pub returns-then-journal-first : goal.returns-then-journal-first
returns-then-journal-first c = record { answer = rw c.at-then-journal-first.ensures.answer (numbered_short c.args.journal.now c.args.e c.is_length.ensures (ap not c.if-not-is_length.false) c.in-Some.ensures c.if-journal-first.true) }

pub returns : goal.returns
returns c = record { answer = numbered_found c.args.journal.now c.args.e c.is_length.ensures (ap not c.if-not-is_length.false) c.in-Some.ensures c.if-journal-first.false }
