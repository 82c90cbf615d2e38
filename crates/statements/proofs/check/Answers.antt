use mathlib.Core.Path.{ap, sym, ◌∙◌}
use Rattle.std.proofs.lemmas.Result.{err_from_is_err_and}
use Rattle.statements.specs.Answers.{checked_of}
use Rattle.statements.proofs.Framed.{framed}
use Rattle.statements.proofs.Paper.{checks}
use Rattle.statements.proofs.check.Goals as goal

pub scan-requires : goal.scan-requires
scan-requires c = (framed c.args.form c.args.file.now _ (sym c.in_ok-frame.was ∙ c.cut.ensures.answer)).0

pub returns-in_err-frame : goal.returns-in_err-frame
returns-in_err-frame c =
    let p = err_from_is_err_and c.from_residual.result c.from_residual.ensures.1 in
    rw (p.1, p.2) (checks (framed c.args.form c.args.file.now _ c.in_err-frame.ensures.answer))

pub returns : goal.returns
returns c = checks (c.scan.ensures ∙ sym (ap checked_of (framed c.args.form c.args.file.now _ (sym c.in_ok-frame.was ∙ c.cut.ensures.answer)).1))
