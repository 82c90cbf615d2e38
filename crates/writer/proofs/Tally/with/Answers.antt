use native.Mathlib.Omega.{arith}
use lib.IntN.{◌+ℤ◌}
use Rattle.amounts.proofs.Whole.{abs_add, fits_abs, back}
use Rattle.writer.proofs.Tallied.{small, row_small, misfit, fitting}
use Rattle.writer.proofs.Tally.with.Goals as goal

pub returns-then-not-texts_fit : goal.returns-then-not-texts_fit
returns-then-not-texts_fit c = misfit c.args.head c.args.self c.args.m c.args.complements.now c.row_fits.ensures.answer c.booked_within.ensures c.reckons.ensures c.if-not-row_fits-booked_within.false c.if-not-records-size.false c.texts_fit.ensures c.if-not-texts_fit.true

pub overflow_add-result : goal.overflow_add-result
overflow_add-result c =
    let a = c.args in
    let h = small c.args.head c.args.self c.args.m c.args.complements.now c.row_fits.ensures.answer c.booked_within.ensures c.reckons.ensures c.if-not-row_fits-booked_within.false in
    let k = row_small c.args.head c.args.self c.args.m c.args.complements.now c.row_fits.ensures.answer c.booked_within.ensures c.reckons.ensures c.if-not-row_fits-booked_within.false in
    rw (back a.self.balance (omega arith), back a.m.amount (omega arith)) (fits_abs _ (omega (arith, abs_add a.self.balance a.m.amount)))

pub returns : goal.returns
returns c =
    let a = c.args in
    let h = small c.args.head c.args.self c.args.m c.args.complements.now c.row_fits.ensures.answer c.booked_within.ensures c.reckons.ensures c.if-not-row_fits-booked_within.false in
    let k = row_small c.args.head c.args.self c.args.m c.args.complements.now c.row_fits.ensures.answer c.booked_within.ensures c.reckons.ensures c.if-not-row_fits-booked_within.false in
    rw (back a.self.balance (omega arith), back a.m.amount (omega arith))
    (rw (back (a.self.balance +ℤ a.m.amount) (omega (arith, abs_add a.self.balance a.m.amount)))
    (fitting c.args.head c.args.self c.args.m c.args.complements.now c.row_fits.ensures.answer c.booked_within.ensures c.reckons.ensures c.if-not-row_fits-booked_within.false c.if-not-records-size.false c.texts_fit.ensures c.if-not-texts_fit.false))
