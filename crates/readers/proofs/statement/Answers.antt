use mathlib.Core.Path.{sym, ◌∙◌}
use Rattle.readers.proofs.Placed.{part_there, part_none}
use Rattle.readers.proofs.statement.Goals as goal

pub returns-in-Ok : goal.returns-in-Ok
returns-in-Ok c =
    record { answer = c.part.ensures.answer ∙ part_there c.args.form c.args.file.now c.args.k (sym c.in-Ok.is ∙ c.statement_place.ensures.answer) }

pub returns-in-Err : goal.returns-in-Err
returns-in-Err c = record { answer = part_none c.args.form c.args.file.now c.args.k (sym c.in-Err.is ∙ c.statement_place.ensures.answer) }
