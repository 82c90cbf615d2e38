use mathlib.Core.Path.{refl, ◌∙◌}
use native.Mathlib.Omega.{arith}
use Rattle.journal.proofs.Promises.{promise}
use Rattle.cash.proofs.Filling.{enter_start, entering, entered, enter_end}
use Rattle.cash.proofs.Ledger.fill.Goals as goal

pub loop-e-init : goal.loop-e-init
loop-e-init c = record { entered = enter_start _ _ _ _; first = refl; same_table = refl }

pub add_entry-requires : goal.add_entry-requires
add_entry-requires c =
    let w = c.loop-e.invariant in
    rw (c.body.ensures.answer, w.first)
    (entering (promise _ c.args.self.now.sound) _ c.requires.key _ _ w.entered (omega arith) (omega (arith, c.args.self.now.many)) c.requires.room)

pub loop-e-preserved : goal.loop-e-preserved
loop-e-preserved c =
    let w = c.loop-e.invariant in
    record {
      entered =
          entered (promise _ c.args.self.now.sound) _ c.requires.key _ _ w.entered (omega arith) (omega (arith, c.args.self.now.many))
          (rw (c.body.ensures.answer, w.first) at c.add_entry.ensures.table);
      first = c.add_entry.ensures.first ∙ w.first;
      same_table = c.add_entry.ensures.same_table ∙ w.same_table;
    }

pub returns-clause-table : goal.returns-clause-table
returns-clause-table c = enter_end (promise _ c.args.self.now.sound) _ c.requires.key _ _ c.loop-e.invariant.entered (omega (arith, c.args.self.now.many))

pub returns-2-clause-table : goal.returns-2-clause-table
returns-2-clause-table c =
    let w = c.loop-e.invariant in
    let p = promise _ c.args.self.now.sound in
    enter_end p _ c.requires.key _ _
    (entered p _ c.requires.key _ _ w.entered (omega arith) (omega (arith, c.args.self.now.many)) (rw (c.body.ensures.answer, w.first) at c.add_entry.ensures.table))
    (omega (arith, c.args.self.now.many))
