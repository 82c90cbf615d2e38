use mathlib.Core.List.{map}
use Prim.Native.Nat.{◌-◌}
use lib.ListN.{length}
use mir.Facts.{to_z-of_z}
use Rattle.journal_layout.specs.Test.{held_of}
use Rattle.journal.specs.Newest.{key_from}
use Rattle.cash.specs.Value.{movements_of}
use Rattle.cash.specs.Buckets.{dated}
use borrow.Author.Rules.{rules}
use Rattle.cash.proofs.Made.{fill_ready, run_ready, row_made}
use Rattle.cash.proofs.Ledger.row.Goals as goal

pub fill-requires : goal.fill-requires
fill-requires c =
    fill_ready c.args.self.now.sound c.requires.1 c.args.first (length c.args.table.now - 1) (rw (to_z-of_z c.ranges.balance) at c.begin.ensures)

pub run-requires : goal.run-requires
run-requires c =
    run_ready c.args.self.now.sound c.requires.1 c.args.first (length c.args.table.now - 1) (rw (to_z-of_z c.ranges.balance) at c.begin.ensures) (search rules)

pub returns : goal.returns
returns c =
    row_made (map dated (movements_of (key_from c.args.self.now.key.now) (held_of c.args.self.now.journal.now))) c.args.first c.requires.0 (rw (to_z-of_z c.ranges.balance) at c.begin.ensures) c.run.ensures (search rules)
