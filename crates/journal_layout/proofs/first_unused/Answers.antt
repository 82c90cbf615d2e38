use borrow.Author.Tests.{tests}
use Rattle.std.proofs.Common.{rules}
use Rattle.std.proofs.lemmas.Iterator.{first_from_Range}
use Rattle.journal_layout.proofs.Freeing.{found}
use Rattle.journal_layout.proofs.first_unused.Goals as goal
use mathlib.Core.Path.{◌∙◌}

pub returns : goal.returns
returns c =
    c.unwrap_or.ensures ∙ found c.args.journal.now c.find.result (first_from_Range _ _ _ c.find.result _ _ c.find.ensures.ran (λ x q k. search (rules, tests)) (λ x q k. search (rules, tests)))
