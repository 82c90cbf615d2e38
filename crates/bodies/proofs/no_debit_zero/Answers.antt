use mathlib.Core.Path.{◌∙◌}
use mathlib.Core.Bool.{not}
use native.Mathlib.Omega.{arith}
use lib.ListN.{take}
use borrow.Author.Rules.{rules}
use borrow.Author.Tests.{tests}
use Rattle.std.proofs.lemmas.Iterator.Search.{all_from_yields_List}
use Rattle.framing.proofs.Chunks.{whole_chunks, YieldsList-from_chunks_exact}
use Rattle.framing.specs.Files.{width_of}
use Rattle.records.specs.July.{record_size, has_debit_zero}
use Rattle.bodies.proofs.Zeros.{none_in}
use Rattle.bodies.proofs.no_debit_zero.Goals as goal

pub returns : goal.returns
unfolding width_of
returns c =
    let b = c.args.body.now in
    all_from_yields_List (λ p. not (has_debit_zero (take record_size p))) _ _ _ c.all.ensures.ran
    (YieldsList-from_chunks_exact record_size b (omega arith) c.chunks_exact.ensures.rest c.chunks_exact.ensures.size)
    (λ x b q k. search (rules, tests))
    ∙ none_in (whole_chunks record_size b)
