use Rattle.std.proofs.lemmas.Result.{err_from_is_err_and}
use Rattle.journal.proofs.Latest.{searchable, found_planned, found_refused}
use Rattle.journal.proofs.find_newest.Goals as goal

pub newest_planned-requires : goal.newest_planned-requires
newest_planned-requires c = searchable _ _ _ c.in_ok-plan.ensures

pub returns-in_err-plan : goal.returns-in_err-plan
returns-in_err-plan c =
    let p = err_from_is_err_and c.from_residual.result c.from_residual.ensures.1 in
    rw (p.1, p.2) (found_refused _ _ _ c.in_err-plan.ensures _)

pub returns : goal.returns
returns c = found_planned _ _ _ c.in_ok-plan.ensures _ c.newest_planned.ensures
