use mathlib.Core.Path.{sym, ◌∙◌}
use native.Mathlib.Omega.{arith}
use Rattle.std.proofs.lemmas.Result.{err_from_is_err_and}
use Rattle.readers.proofs.Placed.{none, over, stood, there, not_read}
use Rattle.readers.proofs.statement_place.Goals as goal

pub returns-in_err-counts : goal.returns-in_err-counts
returns-in_err-counts c =
    let p = err_from_is_err_and c.from_residual.result c.from_residual.ensures.1 in
    rw (p.1, p.2) (record { answer = not_read c.args.form c.args.file.now c.args.k c.in_err-counts.ensures.answer })

pub returns-then-k-eq0 : goal.returns-then-k-eq0
returns-then-k-eq0 c = record { answer = rw c.at.ensures.answer (none c.args.form c.args.file.now c.args.k (sym c.in_ok-counts.was ∙ c.check.ensures.answer) c.if-k-eq0.true) }

pub returns-then-counts-k : goal.returns-then-counts-k
returns-then-counts-k c = record { answer = rw c.at-then-counts-k.ensures.answer (over c.args.form c.args.file.now c.args.k (sym c.in_ok-counts.was ∙ c.check.ensures.answer) c.if-counts-k.true) }

pub overflow_sub-len : goal.overflow_sub-len
overflow_sub-len c = omega (arith, (stood c.args.form c.args.file.now c.args.k (sym c.in_ok-counts.was ∙ c.check.ensures.answer) c.if-k-eq0.false c.if-counts-k.false c.after_statements-first.ensures c.statement_end-end.ensures.answer).end)

pub returns : goal.returns
returns c = record { answer = there c.args.form c.args.file.now c.args.k (sym c.in_ok-counts.was ∙ c.check.ensures.answer) c.if-k-eq0.false c.if-counts-k.false c.after_statements-first.ensures c.statement_end-end.ensures.answer }
