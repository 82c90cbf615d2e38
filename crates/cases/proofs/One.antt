-- No second answer meets a contract. Of contents: where the reader's type says what it holds, and both times it was read.
-- Of each: where the first argument names no case. Else how many are done hangs on which files can be opened.
use mathlib.Core.Path.{◌≡◌, ◌∙◌, sym}
use mathlib.Core.List.{List, []}
use Prim.Native.Nat.{ℕ}
use Rattle.std.proofs.Common.{Some, Result, Ok, String, Vec}
use denote.Ref.{Bor}
use Rattle.cases.specs.Arguments.{argument_of}
use Rattle.cases.specs.Answers.{Argument, Contents, Each}

pub one_argument : {Z : Type 0} {args : List (String Z)} {k : ℕ} {r s : List ℕ} → Argument args k r → Argument args k s → r ≡ s
one_argument a b = a.answer ∙ sym b.answer

pub one_contents : {Z E : Type 0} {xs : List ℕ} {most : ℕ} {r s : Result (Vec ℕ Z) E} {v w : Vec ℕ Z} → Contents (Some xs) most r → Contents (Some xs) most s → r ≡ Ok v → s ≡ Ok w → v.items ≡ w.items
one_contents a b p q = (rw p at a.answer) ∙ sym (rw q at b.answer)

pub one_each : {Z F X E : Type 0} {args : List (String Z)} {words : ℕ} {Step : F → Bor (List ℕ) → Bor (List ℕ) → X → Result (Unit {0}) E → F → Type 0} {work : F} {r s : Result ℕ E} → argument_of args 1 ≡ [] → Each args words Step work r → Each args words Step work s → r ≡ s
one_each e a b = a.answer e ∙ sym (b.answer e)
