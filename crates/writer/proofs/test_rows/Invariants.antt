use Rattle.std.proofs.Common.{◌≡◌, drop}
use Rattle.std.specs.Prelude.{Some}
use Rattle.writer.specs.Test.{begun, tallied}
use Rattle.writer.proofs.test_rows.Given as goal

abbrev pub invariant-loop-m : goal.invariant-loop-m
invariant-loop-m l = tallied l.head (Some l.s) (drop l.m-index l.table) l.complements ≡ tallied l.head (begun l.head) l.table l.complements
