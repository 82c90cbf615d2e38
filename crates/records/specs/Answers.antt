-- The contract of each public function: its one answer.
use Rattle.std.specs.Prelude.{◌≡◌, Bool, List, ℕ, ℤ}
use Rattle.grammar.specs.Record.{same_amount}
use Rattle.records.specs.Looks.{look_of}
use Rattle.records.specs.Tests.{same_key_in, same_front_in, misplaced_by, second_mmo_by, misdated_by, unsummed_by, too_long_by}
use Rattle.records.specs.declared.Look.{Look}

-- look_at
pub record LookAt (b : List ℕ) (r : Look) : Type 0 where
  pub answer : r ≡ look_of b

-- same_key
pub record SameKey (a b : List ℕ) (r : Bool) : Type 0 where
  pub answer : r ≡ same_key_in a b

-- same_front
pub record SameFront (a b : List ℕ) (r : Bool) : Type 0 where
  pub answer : r ≡ same_front_in a b

-- rules::misplaced
pub record Misplaced (size movement kind : ℕ) (r : Bool) : Type 0 where
  pub answer : r ≡ misplaced_by size movement kind

-- rules::second_mmo
pub record SecondMmo (size movement kind : ℕ) (mmo r : Bool) : Type 0 where
  pub answer : r ≡ second_mmo_by size movement kind mmo

-- rules::misdated
pub record Misdated (size kind day old latest : ℕ) (r : Bool) : Type 0 where
  pub answer : r ≡ misdated_by size kind day old latest

-- rules::same_balance
pub record SameBalance (a b : ℤ) (r : Bool) : Type 0 where
  pub answer : r ≡ same_amount a b

-- rules::unsummed
pub record Unsummed (size kind : ℕ) (same r : Bool) : Type 0 where
  pub answer : r ≡ unsummed_by size kind same

-- rules::too_long
pub record TooLong (size : ℕ) (r : Bool) : Type 0 where
  pub answer : r ≡ too_long_by size
