use mathlib.Core.Path.{sym, ◌∙◌}
use native.Mathlib.Omega.{arith}
use lib.ListN.{drop}
use borrow.Author.Rules.{rules}
use borrow.Author.Tests.{tests}
use Rattle.std.proofs.lemmas.Iterator.Search.{position_from_yields_List}
use Rattle.framing.proofs.Chunks.{YieldsList-from_chunks_exact}
use Rattle.records.specs.July.{is_code}
use Rattle.readers.proofs.Walk.{ended_at, ended_none, rest_is}
use Rattle.readers.proofs.closing_end.Goals as goal

pub returns-in-Some : goal.returns-in-Some
returns-in-Some c =
    let b = drop c.args.at c.args.file.now in
    ended_at _ _ _ _
    (sym c.in-Some.is ∙ position_from_yields_List (is_code "07") _ _ _ c.position.ensures.ran
    (YieldsList-from_chunks_exact c.args.width b (omega (arith, c.requires.0)) (c.chunks_exact.ensures.rest ∙ rest_is c.args.at c.args.file.now) c.chunks_exact.ensures.size)
    (λ x b q k. search (rules, tests)))

pub returns-in-None : goal.returns-in-None
returns-in-None c =
    let b = drop c.args.at c.args.file.now in
    ended_none _ _ _ _
    (sym c.in-None.is ∙ position_from_yields_List (is_code "07") _ _ _ c.position.ensures.ran
    (YieldsList-from_chunks_exact c.args.width b (omega (arith, c.requires.0)) (c.chunks_exact.ensures.rest ∙ rest_is c.args.at c.args.file.now) c.chunks_exact.ensures.size)
    (λ x b q k. search (rules, tests)))
