-- The contract of each public function: its one answer, the one final content of the lent table, and the answer as the paper gives it.
use Rattle.std.specs.Prelude.{◌≡◌, List, ℕ, length, ℤ, Result, Ok, Err}
use Rattle.framing.specs.Refusals.{reason_number}
use Rattle.framing.specs.declared.refusals.Refusal.{Refusal}
use Rattle.packing.specs.Packing.{a_in, packed, refusal_in, record_in, value_or_zero}
use Rattle.cash.specs.Spans.{later_day}
use Rattle.cash.specs.Positions.{position_of, table_of, balance_in}

-- number, record and number of days; zero where the paper says zero
pub record PaperPosition : Type 0 where
  pub number : ℕ
  pub at : ℕ
  pub days : ℕ

abbrev pub paper_position : Result ℕ Refusal → PaperPosition
paper_position (Ok n) = record { number = 0; at = 0; days = n }
paper_position (Err e) = record { number = reason_number e.reason; at = e.«record»; days = 0 }

-- as one number: a is the number of days
abbrev pub packed_position : PaperPosition → ℕ
packed_position p = packed p.number p.at p.days 0 0

-- and back, from the bits
abbrev pub paper_position_in : ℕ → PaperPosition
paper_position_in n = record { number = refusal_in n; at = record_in n; days = value_or_zero n (a_in n) }

-- position
pub record Positions (j x : List ℕ) (first last : ℕ) (t : List ℤ) (r : Result ℕ Refusal) (t' : List ℤ) : Type 0 where
  pub answer : r ≡ position_of j x first last (length t)
  pub content : t' ≡ table_of j x first last t

-- crownhazel_position
pub record PositionNumber (j x : List ℕ) (first last : ℕ) (t : List ℤ) (r : ℕ) (t' : List ℤ) : Type 0 where
  pub answer : r ≡ packed_position (paper_position (position_of j x first last (length t)))
  pub content : t' ≡ table_of j x first last t

-- crownhazel_balance
pub record Balance (j : List ℕ) (e : ℕ) (r : ℤ) : Type 0 where
  pub answer : r ≡ balance_in j e

-- crownhazel_day
pub record DayAfter (day after r : ℕ) : Type 0 where
  pub answer : r ≡ later_day day after
