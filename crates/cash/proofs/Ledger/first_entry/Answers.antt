use native.Mathlib.Omega.{arith}
use borrow.Author.Tests.{tests}
use Rattle.std.proofs.Common.{rules}
use Rattle.std.proofs.lemmas.Iterator.{first_from_Range}
use Rattle.journal.proofs.Promises.{promise}
use Rattle.cash.proofs.Asking.{looked}
use Rattle.cash.proofs.Ledger.first_entry.Goals as goal

pub overflow_add-self : goal.overflow_add-self
overflow_add-self c = let f = (promise _ c.args.self.now.sound).few in omega (arith, f, c.args.self.now.many)

pub returns : goal.returns
returns c =
    let s = c.args.self.now in
    looked s.journal.now s.key.now s.count c.find.result (first_from_Range _ _ _ c.find.result _ _ c.find.ensures.ran (λ x q k. search (rules, tests)) (λ x q k. search (rules, tests)))
