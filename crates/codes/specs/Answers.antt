-- What each public function answers: one record for each, its contract.
use Rattle.std.specs.Prelude.{ℕ, Bool, List, ◌≡◌, ℤ}
use Rattle.codes.specs.Code.{code_table, number_in, number_of, debit_of, credit_of, family_of, generic_of, mark_in, mark_of, mark_number}
use Rattle.codes.specs.declared.MovementMark.{MovementMark}

pub record Table (r : List ℕ) : Type 0 where
  pub answer : r ≡ code_table

pub record NumberIn (table : List ℕ) (first second r : ℕ) : Type 0 where
  pub answer : r ≡ number_in table first second

pub record MarkIn (table : List ℕ) (first second : ℕ) (amount : ℤ) (r : MovementMark) : Type 0 where
  pub answer : mark_number r ≡ mark_in table first second amount

pub record Number (first second r : ℕ) : Type 0 where
  pub answer : r ≡ number_of first second

pub record Mark (first second : ℕ) (amount : ℤ) (r : MovementMark) : Type 0 where
  pub answer : mark_number r ≡ mark_of first second amount

pub record DebitTicked (n : ℕ) (r : Bool) : Type 0 where
  pub answer : r ≡ debit_of n

pub record CreditTicked (n : ℕ) (r : Bool) : Type 0 where
  pub answer : r ≡ credit_of n

pub record Family (n r : ℕ) : Type 0 where
  pub answer : r ≡ family_of n

pub record Generic (n r : ℕ) : Type 0 where
  pub answer : r ≡ generic_of n
