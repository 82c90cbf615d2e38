-- What each public function answers: one record for each, its contract.
use Rattle.std.specs.Prelude.{ℕ, List, [], ◌≡◌, Option, Result, Ok, String, Vec, max, take, IfSome, IfOk}
use denote.Ref.{Bor}
use Rattle.cases.specs.Arguments.{argument_of}
use Rattle.cases.specs.Cases.{cases_from, WorkedOn}

pub record Argument {Z : Type 0} (args : List (String Z)) (k : ℕ) (r : List ℕ) : Type 0 where
  pub answer : r ≡ argument_of args k

-- `left` is what the reader holds, where its type says so
pub record Contents {Z E : Type 0} (left : Option (List ℕ)) (most : ℕ) (r : Result (Vec ℕ Z) E) : Type 0 where
  pub answer : IfSome left (λ xs. IfOk r (λ v. v.items ≡ take most xs))

-- The work went well on so many cases, the first ones. Where the first argument names none, it is on none.
pub record Each {Z F X E : Type 0} (args : List (String Z)) (words : ℕ) (Step : F → Bor (List ℕ) → Bor (List ℕ) → X → Result (Unit {0}) E → F → Type 0) (work : F) (r : Result ℕ E) : Type 0 where
  pub worked : IfOk r (λ n. WorkedOn Step (cases_from args (max words 1) 1 n) work)
  pub answer : argument_of args 1 ≡ [] → r ≡ Ok 0
