use mathlib.Core.Path.{refl, ap, sym, ◌∙◌}
use mathlib.Core.Bool.{not}
use Rattle.statements.specs.Progress.{flags_of}
use Rattle.statements.proofs.Modes.{absent_is, differs_out, differs_opening, differs_key, differs_none, differs_repeated}
use Rattle.statements.proofs.Judging.{kind_stands, keys_at, fronts_at}
use Rattle.statements.proofs.Progress.differs.Goals as goal

pub returns-then-self-eq0 : goal.returns-then-self-eq0
returns-then-self-eq0 c =
    let a = c.args in
    rw (kind_stands a.r.now c.requires.1 refl) (differs_out (flags_of a.file.now a.self) a.r.now a.kind c.if-self-eq0.true)

pub returns-in-Opening : goal.returns-in-Opening
returns-in-Opening c =
    let a = c.args in
    rw (kind_stands a.r.now c.requires.1 c.in-Opening.is) (differs_opening (flags_of a.file.now a.self) a.r.now c.if-self-eq0.false)

pub returns-in-Complement : goal.returns-in-Complement
returns-in-Complement c =
    let a = c.args in
    rw (kind_stands a.r.now c.requires.1 c.in-Complement.is)
    (differs_none (flags_of a.file.now a.self) a.r.now c.if-self-eq0.false (absent_is a.self.movement ∙ sym c.eq.ensures ∙ c.if-eq.true))

pub returns-in-Complement-2 : goal.returns-in-Complement-2
returns-in-Complement-2 c =
    let a = c.args in
    rw (kind_stands a.r.now c.requires.1 c.in-Complement.is)
    (ap not (c.same_front.ensures.answer ∙ fronts_at a.file.now a.r.now a.self.mark c.requires.0.mark c.told-r)
    ∙ differs_repeated (flags_of a.file.now a.self) a.r.now c.if-self-eq0.false (absent_is a.self.movement ∙ sym c.eq.ensures ∙ c.if-eq.false))

pub returns-in-Movement : goal.returns-in-Movement
returns-in-Movement c =
    let a = c.args in
    rw (kind_stands a.r.now c.requires.1 refl)
    (ap not (c.same_key.ensures.answer ∙ keys_at a.file.now a.r.now a.self.opening c.requires.0.opening c.told-r)
    ∙ differs_key (flags_of a.file.now a.self) a.r.now c.if-self-eq0.false a.kind c.in-Movement.is)
