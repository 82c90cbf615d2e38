-- The contract of each public function: its one answer, and the one final content of what is lent.
use Rattle.std.specs.Prelude.{◌≡◌, Bool, List, ℕ, Option}
use Rattle.dates.specs.Days.{date_of, is_day, can_put, put_date}
use Rattle.dates.specs.Ordinals.{ordinal_in, day_at}

-- read
pub record Read (s : List ℕ) (r : Option ℕ) : Type 0 where
  pub answer : r ≡ date_of s

-- is_day
pub record IsDay (k : ℕ) (r : Bool) : Type 0 where
  pub answer : r ≡ is_day k

-- put: whether it was written; refused, nothing changes
pub record Put (k : ℕ) (out : List ℕ) (r : Bool) (out' : List ℕ) : Type 0 where
  pub answer : r ≡ can_put k out
  pub content : out' ≡ put_date k out

-- ordinal
pub record Ordinal (k : ℕ) (r : Option ℕ) : Type 0 where
  pub answer : r ≡ ordinal_in k

-- of_ordinal
pub record OfOrdinal (n : ℕ) (r : Option ℕ) : Type 0 where
  pub answer : r ≡ day_at n
