use mathlib.Core.Path.{ap, ◌∙◌}
use Rattle.std.specs.Slice.Iter.{chunks_exact_rest, chunks_exact_size}
use native.Mathlib.Omega.{arith}
use lib.ListN.{drop}
use borrow.Author.Rules.{rules}
use borrow.Author.Tests.{tests}
use Rattle.std.proofs.lemmas.Iterator.Search.{YieldsList-from_take_while}
use Rattle.std.proofs.lemmas.Iterator.Consumers.{count_from_yields_List}
use Rattle.framing.proofs.Chunks.{whole_chunks, YieldsList-from_chunks_exact}
use Rattle.records.specs.July.{is_code}
use Rattle.readers.proofs.Walk.{rest_is}
use Rattle.readers.proofs.Over.{counted_all}
use Rattle.readers.proofs.step_over.Goals as goal

pub returns : goal.returns
returns c =
    let b = drop c.args.at c.args.part.now in
    let e = c.take_while.ensures.source in
    let n = count_from_yields_List c.take_while.result _ c.count-complements.ensures.ran
    (YieldsList-from_take_while _ (is_code "05")
    (YieldsList-from_chunks_exact c.args.width b (omega (arith, c.requires.0))
    (ap chunks_exact_rest e ∙ c.chunks_exact.ensures.rest ∙ rest_is c.args.at c.args.part.now) (ap chunks_exact_size e ∙ c.chunks_exact.ensures.size))
    c.take_while.ensures.closure c.take_while.ensures.done (λ x b q k. search (rules, tests))) in
    rw n (counted_all c.args.width c.args.at (whole_chunks c.args.width b))
