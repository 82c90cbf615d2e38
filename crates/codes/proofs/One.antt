-- No second answer meets a contract.
use mathlib.Core.Path.{◌≡◌, refl, ap, ◌∙◌, sym}
use mathlib.Core.Bool.{Bool}
use mathlib.Core.List.{List}
use Prim.Native.Nat.{ℕ, zero, suc}
use lib.IntN.{ℤ}
use Rattle.codes.specs.declared.MovementMark.{MovementMark}
use Rattle.codes.specs.declared.MovementMark.TheVariants.{Good, Withdrawn, Absent, Unticked}
use Rattle.codes.specs.Code.{mark_number}
use Rattle.codes.specs.Answers.{Table, NumberIn, MarkIn, Number, Mark, DebitTicked, CreditTicked, Family, Generic}

pub one_table : {r s : List ℕ} → Table r → Table s → r ≡ s
one_table a b = a.answer ∙ sym b.answer

pub one_number_in : {table : List ℕ} {first second : ℕ} {r s : ℕ} → NumberIn table first second r → NumberIn table first second s → r ≡ s
one_number_in a b = a.answer ∙ sym b.answer

pub one_number : {first second : ℕ} {r s : ℕ} → Number first second r → Number first second s → r ≡ s
one_number a b = a.answer ∙ sym b.answer

-- a mark's number says which mark it is
abbrev numbered : ℕ → MovementMark
numbered zero = Good
numbered (suc zero) = Withdrawn
numbered (suc (suc zero)) = Absent
numbered (suc (suc (suc n))) = Unticked

same_mark : (r s : MovementMark) → mark_number r ≡ mark_number s → r ≡ s
same_mark r s e = sym (back r) ∙ ap numbered e ∙ back s
  where
    back : (m : MovementMark) → numbered (mark_number m) ≡ m
    back Good = refl
    back Withdrawn = refl
    back Absent = refl
    back Unticked = refl

pub one_mark_in : {table : List ℕ} {first second : ℕ} {amount : ℤ} {r s : MovementMark} → MarkIn table first second amount r → MarkIn table first second amount s → r ≡ s
one_mark_in a b = same_mark _ _ (a.answer ∙ sym b.answer)

pub one_mark : {first second : ℕ} {amount : ℤ} {r s : MovementMark} → Mark first second amount r → Mark first second amount s → r ≡ s
one_mark a b = same_mark _ _ (a.answer ∙ sym b.answer)

pub one_debit_ticked : {n : ℕ} {r s : Bool} → DebitTicked n r → DebitTicked n s → r ≡ s
one_debit_ticked a b = a.answer ∙ sym b.answer

pub one_credit_ticked : {n : ℕ} {r s : Bool} → CreditTicked n r → CreditTicked n s → r ≡ s
one_credit_ticked a b = a.answer ∙ sym b.answer

pub one_family : {n : ℕ} {r s : ℕ} → Family n r → Family n s → r ≡ s
one_family a b = a.answer ∙ sym b.answer

pub one_generic : {n : ℕ} {r s : ℕ} → Generic n r → Generic n s → r ≡ s
one_generic a b = a.answer ∙ sym b.answer
