-- The contract of each public function: its one answer.
use Rattle.std.specs.Prelude.{◌≡◌, List, ℕ}
use Rattle.grammar.specs.declared.Key.{Key}
use Rattle.fields.specs.Rows.{key_at_of, row_at_of, valued_at_of}
use Rattle.fields.specs.declared.Movement.{Movement}
use Rattle.fields.specs.declared.Valued.{Valued}

-- key_at
pub record KeyAt (b : List ℕ) (r : Key) : Type 0 where
  pub answer : r ≡ key_at_of b

-- row_at
pub record RowAt (b : List ℕ) (complements : ℕ) (r : Movement) : Type 0 where
  pub answer : r ≡ row_at_of b complements

-- valued_at
pub record ValuedAt (b : List ℕ) (r : Valued) : Type 0 where
  pub answer : r ≡ valued_at_of b
