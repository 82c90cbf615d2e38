-- No second answer meets a contract.
use mathlib.Core.Path.{◌≡◌, sym, ◌∙◌}
use mathlib.Core.Bool.{Bool}
use mathlib.Core.List.{List}
use Prim.Native.Nat.{ℕ}
use lib.IntN.{ℤ}
use Rattle.records.specs.Answers.{LookAt, SameKey, SameFront, Misplaced, SecondMmo, Misdated, SameBalance, Unsummed, TooLong}
use Rattle.records.specs.declared.Look.{Look}

pub one_look_at : {b : List ℕ} {r q : Look} → LookAt b r → LookAt b q → r ≡ q
one_look_at g h = g.answer ∙ sym h.answer

pub one_same_key : {a b : List ℕ} {r q : Bool} → SameKey a b r → SameKey a b q → r ≡ q
one_same_key g h = g.answer ∙ sym h.answer

pub one_same_front : {a b : List ℕ} {r q : Bool} → SameFront a b r → SameFront a b q → r ≡ q
one_same_front g h = g.answer ∙ sym h.answer

pub one_misplaced : {size movement kind : ℕ} {r q : Bool} → Misplaced size movement kind r → Misplaced size movement kind q → r ≡ q
one_misplaced g h = g.answer ∙ sym h.answer

pub one_second_mmo : {size movement kind : ℕ} {mmo : Bool} {r q : Bool} → SecondMmo size movement kind mmo r → SecondMmo size movement kind mmo q → r ≡ q
one_second_mmo g h = g.answer ∙ sym h.answer

pub one_misdated : {size kind day old latest : ℕ} {r q : Bool} → Misdated size kind day old latest r → Misdated size kind day old latest q → r ≡ q
one_misdated g h = g.answer ∙ sym h.answer

pub one_same_balance : {a b : ℤ} {r q : Bool} → SameBalance a b r → SameBalance a b q → r ≡ q
one_same_balance g h = g.answer ∙ sym h.answer

pub one_unsummed : {size kind : ℕ} {same : Bool} {r q : Bool} → Unsummed size kind same r → Unsummed size kind same q → r ≡ q
one_unsummed g h = g.answer ∙ sym h.answer

pub one_too_long : {size : ℕ} {r q : Bool} → TooLong size r → TooLong size q → r ≡ q
one_too_long g h = g.answer ∙ sym h.answer
