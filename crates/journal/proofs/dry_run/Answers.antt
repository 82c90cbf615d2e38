use mathlib.Core.Path.{ap, ◌∙◌}
use native.Mathlib.Omega.{arith}
use Rattle.std.specs.Prelude.{Ok}
use Rattle.std.proofs.lemmas.Result.{err_from_is_err_and}
use Rattle.framing.specs.Files.{width_of}
use Rattle.journal.proofs.Dry.{known_end, free_there, journal_lines, begins, ends_there, turn_there, judgeable, refused_there, held_there, stored_there}
use Rattle.journal.proofs.dry_run.Goals as goal

pub overflow_sub-lines : goal.overflow_sub-lines
overflow_sub-lines c = omega (arith, journal_lines c.requires)

pub overflow_add-width : goal.overflow_add-width
overflow_add-width c = omega (arith, known_end c.requires)

pub loop-at-init : goal.loop-at-init
loop-at-init c =
    let p = c.requires in
    let e = free_there p c.first_free-free.ensures.answer in
    rw e.1 (begins p)

pub turn-requires : goal.turn-requires
turn-requires c =
    judgeable c.requires c.loop-at.invariant c.loop-at-test.true c.statement_end-end.ensures.answer c.first_free-free.ensures.answer

pub overflow_cast-part-in-loop-at : goal.overflow_cast-part-in-loop-at
overflow_cast-part-in-loop-at c =
    let t = turn_there c.requires c.loop-at.invariant c.loop-at-test.true c.statement_end-end.ensures.answer in
    let w = t.within in
    let s = c.loop-at.invariant.short in
    omega arith

pub bounds-bounds-count : goal.bounds-bounds-count
unfolding width_of
bounds-bounds-count c =
    let d = stored_there c.requires c.loop-at.invariant c.loop-at-test.true c.statement_end-end.ensures.answer c.first_free-free.ensures.answer c.turn.ensures (c.in_ok-turn.was ∙ ap (λ v. Ok v) c.in-Store.is) in
    let f = d.few in
    omega arith

pub overflow_sub-taken : goal.overflow_sub-taken
overflow_sub-taken c =
    let t = turn_there c.requires c.loop-at.invariant c.loop-at-test.true c.statement_end-end.ensures.answer in
    let r = t.rises in
    omega arith

pub returns-in_err-turn : goal.returns-in_err-turn
returns-in_err-turn c =
    let p = err_from_is_err_and c.from_residual.result c.from_residual.ensures.1 in
    rw (p.1, p.2)
    (refused_there c.requires c.loop-at.invariant c.loop-at-test.true c.statement_end-end.ensures.answer c.first_free-free.ensures.answer c.turn.ensures c.in_err-turn.was)

pub loop-at-smaller-in-Hold : goal.loop-at-smaller-in-Hold
loop-at-smaller-in-Hold c =
    let t = turn_there c.requires c.loop-at.invariant c.loop-at-test.true c.statement_end-end.ensures.answer in
    let r = t.rises in
    let w = t.within in
    omega arith

pub loop-at-preserved-in-Hold : goal.loop-at-preserved-in-Hold
loop-at-preserved-in-Hold c =
    held_there c.requires c.loop-at.invariant c.loop-at-test.true c.statement_end-end.ensures.answer c.first_free-free.ensures.answer c.turn.ensures (c.in_ok-turn.was ∙ ap (λ v. Ok v) c.in-Hold.is)

pub loop-at-smaller : goal.loop-at-smaller
loop-at-smaller c =
    let t = turn_there c.requires c.loop-at.invariant c.loop-at-test.true c.statement_end-end.ensures.answer in
    let r = t.rises in
    let w = t.within in
    omega arith

pub loop-at-preserved : goal.loop-at-preserved
unfolding width_of
loop-at-preserved c =
    stored_there c.requires c.loop-at.invariant c.loop-at-test.true c.statement_end-end.ensures.answer c.first_free-free.ensures.answer c.turn.ensures (c.in_ok-turn.was ∙ ap (λ v. Ok v) c.in-Store.is)

pub returns : goal.returns
returns c =
    let p = c.requires in
    let e = free_there p c.first_free-free.ensures.answer in
    rw (e.0, e.1) (ends_there p c.loop-at.invariant c.loop-at-test.false)
