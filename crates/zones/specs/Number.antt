-- Decimal digits as a number, and a number as digits.
use Rattle.std.specs.Prelude.{ℕ, zero, suc, ◌+◌, ◌*◌, ◌/◌, ◌%◌, List, [], ◌∷◌, leb, length}
use Rattle.zones.specs.Choice.{pick}

-- The value of digits that follow a number n. A byte counts by its low four bits: of '0' to '9' that is 0 to 9, and any other byte counts so too.
unfoldable pub value_from : ℕ → List ℕ → ℕ
value_from n [] = n
value_from n (b ∷ s) = value_from (n * 10 + b % 16) s

abbrev pub value_of : List ℕ → ℕ
value_of s = value_from 0 s

-- the most bytes whose value always fits 64 bits
abbrev pub most_digits : ℕ
most_digits = 19

-- the value, and 0 of more bytes than that
unfoldable pub number_of : List ℕ → ℕ
number_of s = pick (leb (length s) most_digits) (value_of s) 0

-- the last w digits of n, before the bytes that follow
unfoldable pub digits_into : ℕ → ℕ → List ℕ → List ℕ
digits_into zero n s = s
digits_into (suc w) n s = digits_into w (n / 10) ((48 + n % 10) ∷ s)

-- the last w digits of n, leading zeros kept
abbrev pub digits_of : ℕ → ℕ → List ℕ
digits_of w n = digits_into w n []
