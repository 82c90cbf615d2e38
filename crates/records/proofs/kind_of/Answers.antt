use native.Mathlib.Omega.{arith}
use Rattle.records.proofs.Looking.{no_kind, kind_by, other_kind}
use Rattle.records.proofs.kind_of.Goals as goal

pub returns-then-r-ne48 : goal.returns-then-r-ne48
returns-then-r-ne48 c = no_kind _ c.told-r c.if-r-ne48.true

pub returns-in-49 : goal.returns-in-49
returns-in-49 c = rw c.in-49.is at (kind_by _ c.told-r c.if-r-ne48.false)

pub returns-in-52 : goal.returns-in-52
returns-in-52 c = rw c.in-52.is at (kind_by _ c.told-r c.if-r-ne48.false)

pub returns-in-53 : goal.returns-in-53
returns-in-53 c = rw c.in-53.is at (kind_by _ c.told-r c.if-r-ne48.false)

pub returns-in-55 : goal.returns-in-55
returns-in-55 c = rw c.in-55.is at (kind_by _ c.told-r c.if-r-ne48.false)

pub returns-in_default : goal.returns-in_default
returns-in_default c = other_kind _ c.told-r c.if-r-ne48.false (λ q. omega arith) (λ q. omega arith) (λ q. omega arith) (λ q. omega arith)
