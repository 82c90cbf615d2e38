-- The contract of each public function: its one answer, and the one final content of what is lent.
use Rattle.std.specs.Prelude.{◌≡◌, Bool, List, ℕ, ℤ, nat_abs, Option}
use Rattle.amounts.specs.Amounts.{amount_of, has_amount, can_put, put_amount}

-- read
pub record Read (s : List ℕ) (r : Option ℤ) : Type 0 where
  pub answer : r ≡ amount_of s

-- has_amount
pub record HasAmount (v : ℤ) (r : Bool) : Type 0 where
  pub answer : r ≡ has_amount v

-- absolute
pub record Absolute (v : ℤ) (r : ℕ) : Type 0 where
  pub answer : r ≡ nat_abs v

-- put: whether it was written; refused, nothing changes
pub record Put (v : ℤ) (out : List ℕ) (r : Bool) (out' : List ℕ) : Type 0 where
  pub answer : r ≡ can_put v out
  pub content : out' ≡ put_amount v out
