use mathlib.Core.Bool.{not}
use mathlib.Core.Path.{ap}
use lib.ListN.{replicate}
use Rattle.writing.proofs.Tested.{KeyWide, RowWide}
use mathlib.Core.Path.{◌≡◌, sym, ◌∙◌}
use mathlib.Core.Bool.{◌&&◌}
use Rattle.zones.proofs.Bools.{conj, and_left, and_right}
use Rattle.zones.proofs.Called.{put_whole}
use Rattle.writing.specs.Written.{movement_holds, text_holds, complement_put}
use Rattle.writing.proofs.Filled.{complement_filled}
use Rattle.writing.proofs.Refused.{other_room, not_held, held, dated, length_held}
use borrow.Author.Rules.{rules}
use Rattle.writing.proofs.put_complement.Goals as goal

pub returns-then-out-ne-RECORD : goal.returns-then-out-ne-RECORD
unfolding complement_put
returns-then-out-ne-RECORD c = record { content = other_room (movement_holds c.args.key c.args.m && text_holds c.args.text.now) _ c.args.out.now c.if-out-ne-RECORD.true }

pub returns-then-not-row_fits-text_fits : goal.returns-then-not-row_fits-text_fits
unfolding complement_put
returns-then-not-row_fits-text_fits c = record { content = not_held (movement_holds c.args.key c.args.m && text_holds c.args.text.now) _ c.args.out.now (conj c.row_fits.ensures.answer c.text_fits.ensures.answer) (ap not c.if-not-row_fits-text_fits.true) }

pub put_front-requires : goal.put_front-requires
put_front-requires c =
    (search rules, (dated c.args.key c.args.m (and_left (movement_holds c.args.key c.args.m) _ (sym (conj c.row_fits.ensures.answer c.text_fits.ensures.answer) ∙ c.if-not-row_fits-text_fits.false))).booked)

pub returns : goal.returns
unfolding complement_put
returns c =
    let a = c.args in
    let n = c.if-out-ne-RECORD.false in
    let h = conj c.row_fits.ensures.answer c.text_fits.ensures.answer in
    let l = length_held a.text.now (and_right (movement_holds a.key a.m) _ (sym h ∙ c.if-not-row_fits-text_fits.false)) in
    let k : KeyWide a.key = search rules in
    let r : RowWide a.m = search rules in
    let five : c.put.new.dst ≡ replicate 5 32 = put_whole c.put.ensures (search rules) in
    let copied : c.put-2.new.dst ≡ a.text.now = put_whole c.put-2.ensures (l ∙ sym (search rules)) in
    record {
      content =
          held (movement_holds a.key a.m && text_holds a.text.now) _ a.out.now n h (ap not c.if-not-row_fits-text_fits.false)
          (complement_filled a.key a.m k r a.text.now a.out.now l n c.put_front.ensures five copied (put_whole c.put-3.ensures (search rules)));
    }
