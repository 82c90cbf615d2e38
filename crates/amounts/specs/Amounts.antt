-- Amounts: thirteen digits, then a sign character.
use Rattle.std.specs.Prelude.{ℕ, suc, ◌+◌, ◌*◌, ◌/◌, ◌%◌, Bool, true, false, ◌&&◌, List, [], ◌∷◌, ◌++◌, leb, ltb, eqb, length, get_or, take, ℤ, pos, negsuc, neg_ℤ, nat_abs, Option, Some, None}
use Rattle.zones.specs.Choice.{pick}
use Rattle.zones.specs.Class.{digit, all}
use Rattle.zones.specs.Copy.{same_bytes}
use Rattle.zones.specs.Number.{value_of, digits_of}
use Rattle.zones.specs.Text.{bytes}

-- `{`, A to I for credit 0 to 9; `}`, J to R for debit 0 to 9
abbrev pub signs : List ℕ
signs = bytes "{ABCDEFGHI}JKLMNOPQR"

-- the place of a byte in a row, from 0; the row's length where it is not there
abbrev pub place_in : List ℕ → ℕ → ℕ
place_in [] b = 0
place_in (x ∷ xs) b = pick (eqb x b) 0 (suc (place_in xs b))

-- the place of a sign character among the twenty
unfoldable pub sign_index : ℕ → ℕ
sign_index b = place_in signs b

abbrev pub sign_place : ℕ → Option ℕ
sign_place b = pick (ltb (sign_index b) 20) (Some (sign_index b)) None

unfoldable pub sign_of : List ℕ → ℕ
sign_of s = sign_index (get_or s 13 0)

-- the last ten are debits
unfoldable pub is_debit : List ℕ → Bool
is_debit s = leb 10 (sign_of s)

-- ten times the first thirteen plus the last digit
unfoldable pub magnitude : List ℕ → ℕ
magnitude s = value_of (take 13 s) * 10 + sign_of s % 10

-- negated for a debit
abbrev pub signed_of : Bool → ℕ → ℤ
signed_of true m = neg_ℤ (pos m)
signed_of false m = pos m

-- fourteen bytes, thirteen digits, one of the twenty signs
abbrev pub is_amount : List ℕ → Bool
is_amount s = (eqb (length s) 14 && all digit (take 13 s)) && ltb (sign_of s) 20

-- the value of fourteen bytes, or that they are no amount
unfoldable pub amount_of : List ℕ → Option ℤ
amount_of s = pick (is_amount s) (Some (signed_of (is_debit s) (magnitude s))) None

-- 8, or no refusal and the value
abbrev pub paper_amount : Option ℤ → ℕ × ℤ
paper_amount (Some v) = (0, v)
paper_amount None = (8, pos 0)

-- the largest amount, credit or debit
abbrev pub most_amount : ℕ
most_amount = 99999999999999

-- a value that some amount has
unfoldable pub has_amount : ℤ → Bool
has_amount v = leb (nat_abs v) most_amount

abbrev pub is_negative : ℤ → Bool
is_negative (pos n) = false
is_negative (negsuc n) = true

-- the sign character of a last digit
abbrev pub sign_byte : Bool → ℕ → ℕ
sign_byte true d = get_or signs (10 + d) 0
sign_byte false d = get_or signs d 0

-- a magnitude with its sign as fourteen bytes
unfoldable pub signed_text : Bool → ℕ → List ℕ
signed_text debit m = digits_of 13 (m / 10) ++ (sign_byte debit (m % 10) ∷ [])

-- the fourteen bytes of a value; zero is a credit
abbrev pub amount_text : ℤ → List ℕ
amount_text v = signed_text (is_negative v) (nat_abs v)

-- zero as a debit, which is read, and as a credit, which is written
abbrev pub debit_zero : List ℕ
debit_zero = bytes "0000000000000}"

abbrev pub credit_zero : List ℕ
credit_zero = bytes "0000000000000{"

-- an amount's bytes as the writer writes them: a debit zero as a credit, all others as they stand
unfoldable pub as_written : List ℕ → List ℕ
as_written s = pick (same_bytes s debit_zero) credit_zero s

-- a value that has an amount goes into a part of fourteen bytes
abbrev pub can_put : ℤ → List ℕ → Bool
can_put v out = eqb (length out) 14 && has_amount v

unfoldable pub put_amount : ℤ → List ℕ → List ℕ
put_amount v out = pick (can_put v out) (amount_text v) out
