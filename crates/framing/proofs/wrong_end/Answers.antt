use mathlib.Core.List.{[]}
use mathlib.Core.Path.{ap}
use mathlib.Core.Bool.{not}
use Rattle.framing.proofs.Framing.{end_none, end_lf, end_crlf}
use Rattle.framing.proofs.wrong_end.Goals as goal

pub returns-then-form-eq0 : goal.returns-then-form-eq0
returns-then-form-eq0 c = record { answer = end_none _ _ c.if-form-eq0.true }

pub returns-then-form-eq1 : goal.returns-then-form-eq1
returns-then-form-eq1 c = record { answer = rw (end_lf c.args.form [] c.if-form-eq1.true) (ap not c.same.ensures.answer) }

pub returns : goal.returns
returns c = record { answer = rw (end_crlf c.args.form [] c.if-form-eq0.false c.if-form-eq1.false) (ap not c.same-2.ensures.answer) }
