-- The work that is done up to an argument, from turn to turn.
use Rattle.std.proofs.Common.{arith, of_calls}
use Rattle.cases.proofs.Ahead.{ahead_next, each_of, has_path, has_first}
use Rattle.cases.proofs.each.Goals as goal
use Rattle.cases.proofs.each.Goals.{else-loop-k-test, then-loop-k-test+then-is_empty, then-loop-k-test+else-is_empty+in-Err+in_ok-eprintln-in-Err, then-loop-k-test+else-is_empty+in-Ok+in_ok-work+else-step-k}

pub loop-k-preserved : goal.loop-k-preserved
loop-k-preserved g c =
    let named = has_path c.is_empty.ensures c.if-is_empty.false c.argument-path.ensures.answer in
    record {
      callable = search of_calls;
      ahead = ahead_next _ _ _ c.loop-k.invariant.ahead c.argument-path.result c.argument.result c.in-Ok.file c.argument-path.ensures.answer c.argument.ensures.answer named c.in_ok-work.ensures;
      few = omega arith;
      none = has_first _ named c.loop-k.invariant.none;
    }

pub returns : goal.returns
returns g c =
    let so_far = each_of c.loop-k.invariant.ahead c.max-step.ensures (λ e. (c.loop-k.invariant.none e).1) in
    elim c.loop-k-test.branch [
      | else-loop-k-test w ↦ rw w.done-is so_far
      | then-loop-k-test+then-is_empty w ↦ rw w.done-is so_far
      | then-loop-k-test+else-is_empty+in-Err+in_ok-eprintln-in-Err w ↦ rw w.done-is so_far
      | then-loop-k-test+else-is_empty+in-Ok+in_ok-work+else-step-k w ↦
          let named = has_path w.is_empty.ensures w.if-is_empty.false w.argument-path.ensures.answer in
          let more = ahead_next _ _ _ c.loop-k.invariant.ahead w.argument-path.result w.argument.result w.in-Ok.file w.argument-path.ensures.answer w.argument.ensures.answer named w.in_ok-work.ensures in
          rw w.done-is (each_of more c.max-step.ensures (has_first _ named c.loop-k.invariant.none))
    ]
