use mathlib.Core.Bool.{not}
use mathlib.Core.Path.{ap}
use mir.Facts.{to_z-of_z}
use Rattle.zones.proofs.Called.{put_whole}
use Rattle.writing.specs.Written.{balance_holds}
use Rattle.writing.specs.Groups.{balance_put}
use Rattle.writing.proofs.Filled.{balance_pasted, amount_put}
use Rattle.writing.proofs.Refused.{other_room, not_held, held, day_held, amount_held}
use borrow.Author.Rules.{rules}
use Rattle.writing.proofs.put_balance.Goals as goal

pub returns-then-out-ne-RECORD : goal.returns-then-out-ne-RECORD
unfolding balance_put
returns-then-out-ne-RECORD c = other_room (balance_holds c.args.key c.args.date c.args.amount) _ c.args.out.now c.if-out-ne-RECORD.true

pub returns-then-not-balance_fits : goal.returns-then-not-balance_fits
unfolding balance_put
returns-then-not-balance_fits c = not_held (balance_holds c.args.key c.args.date c.args.amount) _ c.args.out.now (rw (to_z-of_z c.ranges.amount) at c.balance_fits.ensures.answer) (ap not c.if-not-balance_fits.true)

pub put_front-requires : goal.put_front-requires
put_front-requires c =
    let e = rw (to_z-of_z c.ranges.amount) at c.balance_fits.ensures.answer in
    (search rules, day_held c.args.key c.args.date c.args.amount e (ap not c.if-not-balance_fits.false))

pub returns : goal.returns
unfolding balance_put
returns c =
    let a = c.args in
    let e = rw (to_z-of_z c.ranges.amount) at c.balance_fits.ensures.answer in
    let n = ap not c.if-not-balance_fits.false in
    held (balance_holds a.key a.date a.amount) _ a.out.now c.if-out-ne-RECORD.false e n
    (balance_pasted a.code a.key a.date a.amount (search rules) a.out.now c.if-out-ne-RECORD.false
    c.put_front.ensures
    (put_whole c.put.ensures (search rules))
    (amount_put (rw (to_z-of_z c.ranges.amount) at c.put-2.ensures) (search rules) (amount_held a.key a.date a.amount e n))
    (put_whole c.put-3.ensures (search rules)))
