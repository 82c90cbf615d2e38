use mathlib.Core.Path.{◌≡◌, ap, sym, ◌∙◌}
use mathlib.Core.Bool.{Bool, not}
use native.Mathlib.Omega.{arith}
use lib.ListN.{take}
use lib.Seq.{length-take-le}
use Rattle.framing.specs.Refusals.{reason_of, listed}
use Rattle.grammar.specs.Machine.{judge_of}
use Rattle.grammar.specs.Rules.{Mode, differs}
use Rattle.records.specs.July.{record_size, decode_record}
use Rattle.records.specs.Tests.{unsummed_by}
use Rattle.statements.specs.Progress.{flags_of}
use Rattle.statements.proofs.Modes.{long_is}
use Rattle.statements.proofs.Judging.{Told, told, told_small, balances_back, after_record, kind_none, kind_some, misplaced_is, second_mmo_is, misdated_is, unsummed_is}
use Rattle.statements.specs.Progress.{Fit}
use Rattle.records.specs.Looks.{kind_of, look_of}
use Rattle.framing.specs.declared.Form.{Form}
use Prim.Native.Nat.{ℕ}
use lib.ListN.{length}
use mathlib.Core.List.{List}
use Rattle.records.specs.declared.Look.{Look}
use Rattle.statements.specs.declared.Progress.{Progress}
use Rattle.statements.proofs.Progress.judge.Goals as goal

-- what the look says of the record
known : {form : Form} {n : ℕ} {self : Progress} {k : Look} (piece : List ℕ) → Fit form n (length piece) self × (k ≡ look_of (take record_size piece)) → Told (take record_size piece) k
known piece q = told _ _ (length-take-le record_size piece (omega (arith, q.0.wide))) q.1

-- what differs in the record differs in the front of its piece
differs_front : (m : Mode) {r p : List ℕ} {t : Bool} → t ≡ differs m (decode_record r) → r ≡ p → t ≡ differs m (decode_record p)
differs_front m e s = e ∙ ap (λ x. differs m (decode_record x)) s

pub differs-requires : goal.differs-requires
differs-requires c =
    (c.requires.0.places, ap kind_of (rw c.unwrap.ensures at c.first_chunk.ensures.cases).same ∙ sym (known c.args.piece.now c.requires).kind ∙ c.in-Some.is)

pub returns-then-wrong_end : goal.returns-then-wrong_end
unfolding judge_of reason_of listed
returns-then-wrong_end c = rw (sym (c.wrong_end.ensures.answer ∙ after_record c.args.form c.args.piece.now) ∙ c.if-wrong_end.true)

pub returns-then-not-k : goal.returns-then-not-k
unfolding judge_of reason_of listed
returns-then-not-k c =
    let k = known c.args.piece.now c.requires in
    rw (
      sym (c.wrong_end.ensures.answer ∙ after_record c.args.form c.args.piece.now) ∙ c.if-wrong_end.false,
      ap not (sym k.permits) ∙ c.if-not-k.true,
    )

pub returns-in_default : goal.returns-in_default
unfolding judge_of reason_of listed
returns-in_default c =
    let k = known c.args.piece.now c.requires in
    rw (
      sym (c.wrong_end.ensures.answer ∙ after_record c.args.form c.args.piece.now) ∙ c.if-wrong_end.false,
      ap not (sym k.permits) ∙ c.if-not-k.false,
      kind_none _ (sym k.kind ∙ c.in_default.is),
    )

pub returns-then-misplaced : goal.returns-then-misplaced
unfolding judge_of reason_of listed
returns-then-misplaced c =
    let k = known c.args.piece.now c.requires in
    rw (
      sym (c.wrong_end.ensures.answer ∙ after_record c.args.form c.args.piece.now) ∙ c.if-wrong_end.false,
      ap not (sym k.permits) ∙ c.if-not-k.false,
      kind_some _ (sym k.kind ∙ c.in-Some.is),
      sym (c.misplaced.ensures.answer ∙ misplaced_is c.args.file.now _ c.args.self c.args.k k _ (sym k.kind ∙ c.in-Some.is) c.from-movement.ensures c.from-code.ensures) ∙ c.if-misplaced.true,
    )

pub returns-then-k : goal.returns-then-k
unfolding judge_of reason_of listed
returns-then-k c =
    let k = known c.args.piece.now c.requires in
    rw (
      sym (c.wrong_end.ensures.answer ∙ after_record c.args.form c.args.piece.now) ∙ c.if-wrong_end.false,
      ap not (sym k.permits) ∙ c.if-not-k.false,
      kind_some _ (sym k.kind ∙ c.in-Some.is),
      sym (c.misplaced.ensures.answer ∙ misplaced_is c.args.file.now _ c.args.self c.args.k k _ (sym k.kind ∙ c.in-Some.is) c.from-movement.ensures c.from-code.ensures) ∙ c.if-misplaced.false,
      sym k.misfits ∙ c.if-k.true,
    )

pub returns-then-k-2 : goal.returns-then-k-2
unfolding judge_of reason_of listed
returns-then-k-2 c =
    let k = known c.args.piece.now c.requires in
    rw (
      sym (c.wrong_end.ensures.answer ∙ after_record c.args.form c.args.piece.now) ∙ c.if-wrong_end.false,
      ap not (sym k.permits) ∙ c.if-not-k.false,
      kind_some _ (sym k.kind ∙ c.in-Some.is),
      sym (c.misplaced.ensures.answer ∙ misplaced_is c.args.file.now _ c.args.self c.args.k k _ (sym k.kind ∙ c.in-Some.is) c.from-movement.ensures c.from-code.ensures) ∙ c.if-misplaced.false,
      sym k.misfits ∙ c.if-k.false,
      sym k.undates ∙ c.if-k-2.true,
    )

pub returns-then-differs : goal.returns-then-differs
unfolding judge_of reason_of listed
returns-then-differs c =
    let k = known c.args.piece.now c.requires in
    rw (
      sym (c.wrong_end.ensures.answer ∙ after_record c.args.form c.args.piece.now) ∙ c.if-wrong_end.false,
      ap not (sym k.permits) ∙ c.if-not-k.false,
      kind_some _ (sym k.kind ∙ c.in-Some.is),
      sym (c.misplaced.ensures.answer ∙ misplaced_is c.args.file.now _ c.args.self c.args.k k _ (sym k.kind ∙ c.in-Some.is) c.from-movement.ensures c.from-code.ensures) ∙ c.if-misplaced.false,
      sym k.misfits ∙ c.if-k.false,
      sym k.undates ∙ c.if-k-2.false,
      sym (differs_front _ c.differs.ensures (rw c.unwrap.ensures at c.first_chunk.ensures.cases).same) ∙ c.if-differs.true,
    )

pub returns-then-second_mmo : goal.returns-then-second_mmo
unfolding judge_of reason_of listed
returns-then-second_mmo c =
    let k = known c.args.piece.now c.requires in
    rw (
      sym (c.wrong_end.ensures.answer ∙ after_record c.args.form c.args.piece.now) ∙ c.if-wrong_end.false,
      ap not (sym k.permits) ∙ c.if-not-k.false,
      kind_some _ (sym k.kind ∙ c.in-Some.is),
      sym (c.misplaced.ensures.answer ∙ misplaced_is c.args.file.now _ c.args.self c.args.k k _ (sym k.kind ∙ c.in-Some.is) c.from-movement.ensures c.from-code.ensures) ∙ c.if-misplaced.false,
      sym k.misfits ∙ c.if-k.false,
      sym k.undates ∙ c.if-k-2.false,
      sym (differs_front _ c.differs.ensures (rw c.unwrap.ensures at c.first_chunk.ensures.cases).same) ∙ c.if-differs.false,
      sym (c.second_mmo.ensures.answer ∙ second_mmo_is c.args.file.now _ c.args.self c.args.k k _ (sym k.kind ∙ c.in-Some.is) c.from-movement.ensures c.from-code.ensures) ∙ c.if-second_mmo.true,
    )

pub returns-then-misdated : goal.returns-then-misdated
unfolding judge_of reason_of listed
returns-then-misdated c =
    let k = known c.args.piece.now c.requires in
    rw (
      sym (c.wrong_end.ensures.answer ∙ after_record c.args.form c.args.piece.now) ∙ c.if-wrong_end.false,
      ap not (sym k.permits) ∙ c.if-not-k.false,
      kind_some _ (sym k.kind ∙ c.in-Some.is),
      sym (c.misplaced.ensures.answer ∙ misplaced_is c.args.file.now _ c.args.self c.args.k k _ (sym k.kind ∙ c.in-Some.is) c.from-movement.ensures c.from-code.ensures) ∙ c.if-misplaced.false,
      sym k.misfits ∙ c.if-k.false,
      sym k.undates ∙ c.if-k-2.false,
      sym (differs_front _ c.differs.ensures (rw c.unwrap.ensures at c.first_chunk.ensures.cases).same) ∙ c.if-differs.false,
      sym (c.second_mmo.ensures.answer ∙ second_mmo_is c.args.file.now _ c.args.self c.args.k k _ (sym k.kind ∙ c.in-Some.is) c.from-movement.ensures c.from-code.ensures) ∙ c.if-second_mmo.false,
      sym (c.misdated.ensures.answer ∙ misdated_is c.args.file.now _ c.args.self c.args.k k _ (sym k.kind ∙ c.in-Some.is) c.from-movement.ensures c.from-code.ensures) ∙ c.if-misdated.true,
    )

pub returns-then-unsummed : goal.returns-then-unsummed
unfolding judge_of reason_of listed
returns-then-unsummed c =
    let k = known c.args.piece.now c.requires in
    rw (
      sym (c.wrong_end.ensures.answer ∙ after_record c.args.form c.args.piece.now) ∙ c.if-wrong_end.false,
      ap not (sym k.permits) ∙ c.if-not-k.false,
      kind_some _ (sym k.kind ∙ c.in-Some.is),
      sym (c.misplaced.ensures.answer ∙ misplaced_is c.args.file.now _ c.args.self c.args.k k _ (sym k.kind ∙ c.in-Some.is) c.from-movement.ensures c.from-code.ensures) ∙ c.if-misplaced.false,
      sym k.misfits ∙ c.if-k.false,
      sym k.undates ∙ c.if-k-2.false,
      sym (differs_front _ c.differs.ensures (rw c.unwrap.ensures at c.first_chunk.ensures.cases).same) ∙ c.if-differs.false,
      sym (c.second_mmo.ensures.answer ∙ second_mmo_is c.args.file.now _ c.args.self c.args.k k _ (sym k.kind ∙ c.in-Some.is) c.from-movement.ensures c.from-code.ensures) ∙ c.if-second_mmo.false,
      sym (c.misdated.ensures.answer ∙ misdated_is c.args.file.now _ c.args.self c.args.k k _ (sym k.kind ∙ c.in-Some.is) c.from-movement.ensures c.from-code.ensures) ∙ c.if-misdated.false,
      sym (c.unsummed.ensures.answer ∙ (ap (unsummed_by c.args.self.size c.from-code.result) (c.same_balance-right.ensures.answer ∙ balances_back c.args.self.totals.balance c.args.k.amount (omega (arith, c.requires.0.totals.balance)) (omega (arith, told_small k))) ∙ unsummed_is c.args.file.now _ c.args.self c.args.k k _ (sym k.kind ∙ c.in-Some.is) c.from-movement.ensures c.from-code.ensures)) ∙ c.if-unsummed.true,
    )

pub returns-then-too_long : goal.returns-then-too_long
unfolding judge_of reason_of listed
returns-then-too_long c =
    let k = known c.args.piece.now c.requires in
    rw (
      sym (c.wrong_end.ensures.answer ∙ after_record c.args.form c.args.piece.now) ∙ c.if-wrong_end.false,
      ap not (sym k.permits) ∙ c.if-not-k.false,
      kind_some _ (sym k.kind ∙ c.in-Some.is),
      sym (c.misplaced.ensures.answer ∙ misplaced_is c.args.file.now _ c.args.self c.args.k k _ (sym k.kind ∙ c.in-Some.is) c.from-movement.ensures c.from-code.ensures) ∙ c.if-misplaced.false,
      sym k.misfits ∙ c.if-k.false,
      sym k.undates ∙ c.if-k-2.false,
      sym (differs_front _ c.differs.ensures (rw c.unwrap.ensures at c.first_chunk.ensures.cases).same) ∙ c.if-differs.false,
      sym (c.second_mmo.ensures.answer ∙ second_mmo_is c.args.file.now _ c.args.self c.args.k k _ (sym k.kind ∙ c.in-Some.is) c.from-movement.ensures c.from-code.ensures) ∙ c.if-second_mmo.false,
      sym (c.misdated.ensures.answer ∙ misdated_is c.args.file.now _ c.args.self c.args.k k _ (sym k.kind ∙ c.in-Some.is) c.from-movement.ensures c.from-code.ensures) ∙ c.if-misdated.false,
      sym (c.unsummed.ensures.answer ∙ (ap (unsummed_by c.args.self.size c.from-code.result) (c.same_balance-right.ensures.answer ∙ balances_back c.args.self.totals.balance c.args.k.amount (omega (arith, c.requires.0.totals.balance)) (omega (arith, told_small k))) ∙ unsummed_is c.args.file.now _ c.args.self c.args.k k _ (sym k.kind ∙ c.in-Some.is) c.from-movement.ensures c.from-code.ensures)) ∙ c.if-unsummed.false,
      sym (c.too_long.ensures.answer ∙ long_is (flags_of c.args.file.now c.args.self)) ∙ c.if-too_long.true,
    )

pub returns : goal.returns
unfolding judge_of reason_of listed
returns c =
    let k = known c.args.piece.now c.requires in
    rw (
      sym (c.wrong_end.ensures.answer ∙ after_record c.args.form c.args.piece.now) ∙ c.if-wrong_end.false,
      ap not (sym k.permits) ∙ c.if-not-k.false,
      kind_some _ (sym k.kind ∙ c.in-Some.is),
      sym (c.misplaced.ensures.answer ∙ misplaced_is c.args.file.now _ c.args.self c.args.k k _ (sym k.kind ∙ c.in-Some.is) c.from-movement.ensures c.from-code.ensures) ∙ c.if-misplaced.false,
      sym k.misfits ∙ c.if-k.false,
      sym k.undates ∙ c.if-k-2.false,
      sym (differs_front _ c.differs.ensures (rw c.unwrap.ensures at c.first_chunk.ensures.cases).same) ∙ c.if-differs.false,
      sym (c.second_mmo.ensures.answer ∙ second_mmo_is c.args.file.now _ c.args.self c.args.k k _ (sym k.kind ∙ c.in-Some.is) c.from-movement.ensures c.from-code.ensures) ∙ c.if-second_mmo.false,
      sym (c.misdated.ensures.answer ∙ misdated_is c.args.file.now _ c.args.self c.args.k k _ (sym k.kind ∙ c.in-Some.is) c.from-movement.ensures c.from-code.ensures) ∙ c.if-misdated.false,
      sym (c.unsummed.ensures.answer ∙ (ap (unsummed_by c.args.self.size c.from-code.result) (c.same_balance-right.ensures.answer ∙ balances_back c.args.self.totals.balance c.args.k.amount (omega (arith, c.requires.0.totals.balance)) (omega (arith, told_small k))) ∙ unsummed_is c.args.file.now _ c.args.self c.args.k k _ (sym k.kind ∙ c.in-Some.is) c.from-movement.ensures c.from-code.ensures)) ∙ c.if-unsummed.false,
      sym (c.too_long.ensures.answer ∙ long_is (flags_of c.args.file.now c.args.self)) ∙ c.if-too_long.false,
    )
