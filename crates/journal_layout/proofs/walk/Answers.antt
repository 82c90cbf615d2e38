use mathlib.Core.Bool.{not}
use mathlib.Core.Path.{refl, ap}
use native.Mathlib.Omega.{arith}
use Rattle.journal_layout.proofs.Testing.{ends, unused, no_lines, no_fit, goes_on}
use Rattle.entries.proofs.Found.{used_small, used_found, none_found}
use Rattle.journal_layout.proofs.walk.Goals as goal

pub returns-in_default : goal.returns-in_default
returns-in_default c = unused c.args.journal.now c.loop-e.invariant c.loop-e-test.true refl (ap not (none_found _ c.in_default.ensures.answer)) c.rest_blank.ensures

pub overflow_mul-n : goal.overflow_mul-n
overflow_mul-n c = let s = used_small c.in-Some.ensures in omega (arith, s.records)

pub overflow_add-k-in-loop-e : goal.overflow_add-k-in-loop-e
overflow_add-k-in-loop-e c = let s = used_small c.in-Some.ensures in omega (arith, s.records)

pub returns-then-journal-k : goal.returns-then-journal-k
returns-then-journal-k c = no_lines c.args.journal.now c.loop-e.invariant c.loop-e-test.true (used_found c.in-Some.ensures.answer) refl c.if-journal-k.true

pub returns-then-not-fits : goal.returns-then-not-fits
returns-then-not-fits c = no_fit c.args.journal.now c.loop-e.invariant c.loop-e-test.true (used_found c.in-Some.ensures.answer) refl c.if-journal-k.false c.fits.ensures (ap not c.if-not-fits.true)

pub loop-e-preserved : goal.loop-e-preserved
loop-e-preserved c = goes_on c.args.journal.now c.loop-e.invariant c.loop-e-test.true (used_found c.in-Some.ensures.answer) refl c.if-journal-k.false c.fits.ensures (ap not c.if-not-fits.false)

pub returns : goal.returns
returns c = ends c.args.journal.now c.loop-e.invariant c.loop-e-test.false c.rest_blank-2.ensures
