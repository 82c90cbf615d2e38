use Rattle.std.proofs.Common.{◌≡◌, drop}
use Rattle.writer.specs.Steps.{rows_put, first_spot}
use Rattle.writer.proofs.put_rows.Given as goal

abbrev pub invariant-loop-m : goal.invariant-loop-m
invariant-loop-m l = rows_put l.bytes l.key (drop l.m-index l.table) l.complements l.spot l.out ≡ rows_put l.bytes l.key l.table l.complements first_spot l.initial.out
