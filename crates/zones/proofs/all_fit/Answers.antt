use Rattle.std.proofs.Common.{rules, ◌∙◌, ◌&&◌, true}
use Rattle.std.proofs.lemmas.Iterator.{YieldsList-from_slice}
use Rattle.std.proofs.lemmas.Iterator.Consumers.{fold_from_yields_List}
use Rattle.zones.proofs.Every.{every_fold}
use Rattle.zones.proofs.all_fit.Goals as goal

-- The fold tests each byte in turn, and what it comes to is the test of all.
pub returns : goal.returns
returns g c = λ p h.
    fold_from_yields_List _ (λ ok b. ok && p b) true _ c.fold.ensures.ran (YieldsList-from_slice c.args.s.now cc) (λ a x b q k. search (rules, h))
    ∙ every_fold p true c.args.s.now
