use mathlib.Core.Bool.{Bool, true, not}
use Rattle.writing.proofs.Tested.{KeyWide, RowWide}
use mathlib.Core.Path.{◌≡◌, sym, ap, ◌∙◌}
use Rattle.grammar.specs.declared.Key.{Key}
use Rattle.fields.specs.declared.Movement.{Movement}
use Rattle.writing.specs.Written.{movement_holds, movement_put}
use Rattle.writing.proofs.Filled.{movement_filled}
use Rattle.writing.proofs.Refused.{other_room, not_held, held, Dated, dated}
use borrow.Author.Rules.{rules}
use Rattle.writing.proofs.put_movement.Goals as goal

pub returns-then-out-ne-RECORD : goal.returns-then-out-ne-RECORD
unfolding movement_put
returns-then-out-ne-RECORD c = record { content = other_room (movement_holds c.args.key c.args.m) _ c.args.out.now c.if-out-ne-RECORD.true }

pub returns-then-not-row_fits : goal.returns-then-not-row_fits
unfolding movement_put
returns-then-not-row_fits c = record { content = not_held (movement_holds c.args.key c.args.m) _ c.args.out.now c.row_fits.ensures.answer (ap not c.if-not-row_fits.true) }

-- the row's dates and amount
right : (key : Key) (m : Movement) {r : Bool} → r ≡ movement_holds key m → r ≡ true → Dated m
right key m h e = dated key m (sym h ∙ e)

pub put_front-requires : goal.put_front-requires
put_front-requires c = (search rules, (right c.args.key c.args.m c.row_fits.ensures.answer c.if-not-row_fits.false).booked)

pub put_middle-requires : goal.put_middle-requires
put_middle-requires c = (search rules, (right c.args.key c.args.m c.row_fits.ensures.answer c.if-not-row_fits.false).value)

pub put_last-requires : goal.put_last-requires
put_last-requires c = (search rules, (right c.args.key c.args.m c.row_fits.ensures.answer c.if-not-row_fits.false).amount)

pub returns : goal.returns
unfolding movement_put
returns c =
    let a = c.args in
    let n = c.if-out-ne-RECORD.false in
    let k : KeyWide a.key = search rules in
    let r : RowWide a.m = search rules in
    record {
      content =
          held (movement_holds a.key a.m) _ a.out.now n c.row_fits.ensures.answer (ap not c.if-not-row_fits.false)
          (movement_filled a.key a.m k r a.out.now n c.put_front.ensures c.put_middle.ensures c.put_last.ensures);
    }
