use mathlib.Core.Bool.{not}
use mathlib.Core.Path.{ap}
use Rattle.std.proofs.lemmas.Result.{err_from_is_err_and}
use Rattle.journal.proofs.Dry.{not_sound, not_read}
use Rattle.journal.proofs.planned.Goals as goal

pub returns-then-not-sound : goal.returns-then-not-sound
returns-then-not-sound c =
    let a = c.args in
    rw (c.from.ensures, c.at.ensures.answer) (not_sound a.journal.now a.form a.file.now c.sound.ensures.answer (ap not c.if-not-sound.true))

pub returns-in_err-check : goal.returns-in_err-check
returns-in_err-check c =
    let a = c.args in
    let p = err_from_is_err_and c.from_residual.result c.from_residual.ensures.1 in
    rw (p.1, p.2) (not_read a.journal.now a.form a.file.now c.sound.ensures.answer (ap not c.if-not-sound.false) c.in_err-check.ensures.answer)
