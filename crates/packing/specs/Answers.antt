-- The contract of each public function: its one number.
use Rattle.std.specs.Prelude.{◌≡◌, ℕ}
use Rattle.framing.specs.declared.refusals.Refusal.{Refusal}
use Rattle.framing.specs.Refusals.{reason_number}
use Rattle.packing.specs.Packing.{answered_of, refused_of}

-- answered
pub record Answered (a b c r : ℕ) : Type 0 where
  pub answer : r ≡ answered_of a b c

-- refused
pub record Refuses (number at r : ℕ) : Type 0 where
  pub answer : r ≡ refused_of number at

-- refusal
pub record RefusalNumber (e : Refusal) (r : ℕ) : Type 0 where
  pub answer : r ≡ refused_of (reason_number e.reason) e.«record»
