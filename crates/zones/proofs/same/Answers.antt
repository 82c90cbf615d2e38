use Rattle.std.proofs.Common.{rules, ◌∙◌, ◌&&◌, true, eqb}
use Rattle.std.proofs.lemmas.Iterator.{YieldsList-from_slice, YieldsList-from_zip}
use Rattle.std.proofs.lemmas.Iterator.Consumers.{fold_from_yields_List}
use Rattle.zones.proofs.Copies.{other_length, same_fold}
use Rattle.zones.proofs.same.Goals as goal

pub returns-then-a-b : goal.returns-then-a-b
returns-then-a-b c = record { answer = other_length _ _ c.if-a-b.true }

-- The fold compares byte by byte, and what it comes to is the test of all.
pub returns : goal.returns
returns c = record {
  answer = fold_from_yields_List _ (λ ok q. ok && eqb q.0 q.1) true _ c.fold.ensures.ran (YieldsList-from_zip (YieldsList-from_slice c.args.a.now cc) (YieldsList-from_slice c.args.b.now cc)) (λ a x b q k. search rules)
      ∙ same_fold true c.args.a.now c.args.b.now c.if-a-b.false;
}
