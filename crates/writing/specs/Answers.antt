-- The contract of each public function: its one answer, and the one final content of what is lent.
use Rattle.std.specs.Prelude.{◌≡◌, Bool, List, ℕ, ℤ}
use Rattle.grammar.specs.declared.Key.{Key}
use Rattle.records.specs.July.{is_mmo}
use Rattle.fields.specs.declared.Movement.{Movement}
use Rattle.writing.specs.Written.{balance_holds, movement_holds, text_holds, opening_put, closing_put, movement_put, complement_put}

-- balance_fits
pub record BalanceFits (k : Key) (d : ℕ) (a : ℤ) (r : Bool) : Type 0 where
  pub answer : r ≡ balance_holds k d a

-- row_fits
pub record RowFits (k : Key) (m : Movement) (r : Bool) : Type 0 where
  pub answer : r ≡ movement_holds k m

-- text_fits
pub record TextFits (t : List ℕ) (r : Bool) : Type 0 where
  pub answer : r ≡ text_holds t

-- is_mmo
pub record IsMmo (t : List ℕ) (r : Bool) : Type 0 where
  pub answer : r ≡ is_mmo t

-- put_opening
pub record PutOpening (k : Key) (d : ℕ) (a : ℤ) (out out' : List ℕ) : Type 0 where
  pub content : out' ≡ opening_put k d a out

-- put_closing
pub record PutClosing (k : Key) (d : ℕ) (a : ℤ) (out out' : List ℕ) : Type 0 where
  pub content : out' ≡ closing_put k d a out

-- put_movement
pub record PutMovement (k : Key) (m : Movement) (out out' : List ℕ) : Type 0 where
  pub content : out' ≡ movement_put k m out

-- put_complement
pub record PutComplement (k : Key) (m : Movement) (t out out' : List ℕ) : Type 0 where
  pub content : out' ≡ complement_put k m t out
