use Rattle.records.proofs.Canon.{other_digit}
use Rattle.bodies.proofs.has_debit_zero.Goals as goal

pub returns-then-r-ne125 : goal.returns-then-r-ne125
returns-then-r-ne125 c = other_digit c.args.r.now c.if-r-ne125.true
