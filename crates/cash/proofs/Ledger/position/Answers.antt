use lib.Seq.{length-take-le}
use mir.Facts.{to_z-of_z}
use borrow.Author.Rules.{sfits_of}
use Rattle.cash.proofs.Positioned.{no_span_at, no_entry_at, short_at, some_days, opening, answered}
use Rattle.cash.proofs.Ledger.position.Goals as goal

pub returns-in_default : goal.returns-in_default
returns-in_default c = no_span_at _ _ _ _ _ c.args.self.now.sound c.in_default.ensures (rw c.at.ensures.answer)

pub returns-in_default-first_entry : goal.returns-in_default-first_entry
returns-in_default-first_entry c =
    no_entry_at _ _ _ _ _ c.args.self.now.sound c.args.self.now.many c.in-Some.ensures c.in_default-first_entry.ensures (rw c.at-in_default-first_entry.ensures.answer)

pub returns-then-table-span : goal.returns-then-table-span
returns-then-table-span c =
    short_at _ _ _ _ _ c.args.self.now.sound c.args.self.now.many c.in-Some.ensures c.in-Some-first_entry.ensures c.if-table-span.true (rw c.at-then-table-span.ensures.answer)

pub row-requires : goal.row-requires
row-requires c = (
  rw (length-take-le _ _ c.if-table-span.false) (some_days _ _ _ _ c.args.table.now c.args.self.now.sound c.args.self.now.many c.in-Some.ensures c.in-Some-first_entry.ensures),
  rw (to_z-of_z (sfits_of c.old_balance-balance.type_inv))
      (opening _ _ _ _ c.args.table.now c.args.self.now.sound c.args.self.now.many c.in-Some.ensures c.in-Some-first_entry.ensures c.old_balance-balance.ensures),
)

pub returns : goal.returns
returns c =
    let r = rw (length-take-le _ _ c.if-table-span.false, to_z-of_z (sfits_of c.old_balance-balance.type_inv)) at c.row.ensures in
    answered _ _ _ _ _ c.args.self.now.sound c.args.self.now.many c.in-Some.ensures c.in-Some-first_entry.ensures c.old_balance-balance.ensures c.if-table-span.false r
