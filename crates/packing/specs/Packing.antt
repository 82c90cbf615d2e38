-- One number for a whole answer, as a caller in C gets it.
--
--     bits   0 to 19 | 20 to 39 | 40 to 59 | 60 to 63
--            a       | b        | c        | kind
--
-- Kind 0, answered: what a, b and c are, each exported function says. Kind 1, refused: a is the record, b the refusal's number, c is 0.
use Rattle.std.specs.Prelude.{Bool, ℕ, ◌+◌, ◌*◌, ◌/◌, ◌%◌, ◌<◌, eqb}
use Rattle.zones.specs.Choice.{pick}

-- the weights of bits 20, 40 and 60
abbrev pub bit20 : ℕ
bit20 = 1048576

abbrev pub bit40 : ℕ
bit40 = 1099511627776

abbrev pub bit60 : ℕ
bit60 = 1152921504606846976

abbrev pub pack : (kind a b c : ℕ) → ℕ
pack kind a b c = a + bit20 * b + bit40 * c + bit60 * kind

-- what a packed number holds
abbrev pub a_in : ℕ → ℕ
a_in n = n % bit20

abbrev pub b_in : ℕ → ℕ
b_in n = n / bit20 % bit20

abbrev pub c_in : ℕ → ℕ
c_in n = n / bit40 % bit20

abbrev pub kind_in : ℕ → ℕ
kind_in n = n / bit60

abbrev pub is_answer : ℕ → Bool
is_answer n = eqb (kind_in n) 0

-- numbers that fit their bits
pub record Fits (kind a b c : ℕ) : Type 0 where
  pub kind_fits : kind < 16
  pub a_fits : a < bit20
  pub b_fits : b < bit20
  pub c_fits : c < bit20

abbrev pub answered : (a b c : ℕ) → ℕ
answered a b c = pack 0 a b c

abbrev pub refused : (number at : ℕ) → ℕ
refused number at = pack 1 at number 0

-- an answer of the paper: its refusal where it has a number, else its values
abbrev pub packed : (number at a b c : ℕ) → ℕ
packed number at a b c = pick (eqb number 0) (answered a b c) (refused number at)

-- and back, from the bits alone: number and record, 0 where it answered; a value, 0 where it refused
abbrev pub refusal_in : ℕ → ℕ
refusal_in n = pick (is_answer n) 0 (b_in n)

abbrev pub record_in : ℕ → ℕ
record_in n = pick (is_answer n) 0 (a_in n)

abbrev pub value_or_zero : (n value : ℕ) → ℕ
value_or_zero n value = pick (is_answer n) value 0

-- answered and refused with any numbers, of which the low 20 bits are taken
unfoldable pub answered_of : (a b c : ℕ) → ℕ
answered_of a b c = answered (a % bit20) (b % bit20) (c % bit20)

unfoldable pub refused_of : (number at : ℕ) → ℕ
refused_of number at = refused (number % bit20) (at % bit20)
