-- The number of an operation code, what its bits say, and the mark of a movement.
use Rattle.std.specs.Prelude.{ℕ, zero, suc, ◌+◌, ◌*◌, ◌-◌, ◌/◌, ◌%◌, Bool, true, false, ◌||◌, List, [], ◌∷◌, eqb, leb, ltb, ℤ, pos, negsuc, get_or}
use Prim.Native.String.{String}
use Rattle.std.proofs.Math.Option.{Option, none, some}
use Rattle.zones.specs.Choice.{pick}
use Rattle.zones.specs.Class.{between}
use Rattle.zones.specs.Table.{tabulate}
use Rattle.zones.specs.Text.{bytes}
use Rattle.codes.specs.declared.MovementMark.{MovementMark}
use Rattle.codes.specs.declared.MovementMark.TheVariants.{Good, Withdrawn, Absent, Unticked}
use Rattle.codes.specs.Annex.{Family, OPCA, OPPF, OPET, OPTB, AGFR, OPFI, DIVE, Ticks, debit, credit, both, Row, row, annex, withdrawn}

-- how many characters there are for a code: 0 to 9, A to Z
abbrev pub characters : ℕ
characters = 36

-- the value of a character: 0 to 9 are 0 to 9, A to Z are 10 to 35; 36 for any other byte
unfoldable pub char_value : ℕ → ℕ
char_value b = pick (between 48 57 b) (b - 48) (pick (between 65 90 b) (10 + (b - 65)) characters)

-- how many codes two characters can be: 1,296
abbrev pub most_codes : ℕ
most_codes = characters * characters

-- the index of a code: 36 times the first character plus the second
abbrev pub index_of : ℕ → ℕ → ℕ
index_of first second = characters * char_value first + char_value second

-- the index of a code in quotes
abbrev pub index : String → ℕ
index t = index_of (get_or (bytes t) 0 0) (get_or (bytes t) 1 0)

-- bit 0 for a debit, bit 1 for a credit
abbrev pub ticks_number : Ticks → ℕ
ticks_number debit = 1
ticks_number credit = 2
ticks_number both = 3

abbrev pub family_number : Family → ℕ
family_number OPCA = 1
family_number OPPF = 2
family_number OPET = 3
family_number OPTB = 4
family_number AGFR = 5
family_number OPFI = 6
family_number DIVE = 7

-- the number for no generic code: more than any index
abbrev pub no_generic : ℕ
no_generic = 2047

abbrev pub generic_number : Option String → ℕ
generic_number none = no_generic
generic_number (some t) = index t

-- the number of the row of an index, 0 where there is none
unfoldable pub row_at : List Row → ℕ → ℕ
row_at [] i = 0
row_at (row c f t g ∷ rows) i =
    pick (eqb (index c) i) (ticks_number t + 4 * family_number f + 32 * generic_number g) (row_at rows i)

-- whether an index is that of a code of a list
unfoldable pub one_of : List String → ℕ → Bool
one_of [] i = false
one_of (c ∷ cs) i = eqb (index c) i || one_of cs i

-- the number at an index: 0 absent, 1 withdrawn, else that of its row
unfoldable pub number_at : ℕ → ℕ
number_at i = pick (one_of withdrawn i) 1 (row_at annex i)

-- the 1,296 numbers
unfoldable pub code_table : List ℕ
code_table = tabulate number_at 0 most_codes

-- the number in a table of the code of two bytes: 0 where one is outside A-Z, 0-9
unfoldable pub number_in : List ℕ → ℕ → ℕ → ℕ
number_in table first second =
    pick (leb characters (char_value first)) 0
    (pick (leb characters (char_value second)) 0
    (get_or table (index_of first second) 0))

-- the number of a code by annex 2
abbrev pub number_of : ℕ → ℕ → ℕ
number_of first second = number_in code_table first second

-- the two lowest bits: debit tick, credit tick
abbrev pub debit_of : ℕ → Bool
debit_of n = eqb (n % 2) 1

abbrev pub credit_of : ℕ → Bool
credit_of n = eqb (n / 2 % 2) 1

-- three bits of family
abbrev pub family_of : ℕ → ℕ
family_of n = n / 4 % 8

-- the generic code's index
abbrev pub generic_of : ℕ → ℕ
generic_of n = n / 32

-- neither absent nor withdrawn
abbrev pub listed : ℕ → Bool
listed n = ltb 1 n

-- a debit is a negative amount; a zero amount always is ticked
abbrev pub sign_ticked : ℕ → ℤ → Bool
sign_ticked n (negsuc k) = debit_of n
sign_ticked n (pos zero) = true
sign_ticked n (pos (suc k)) = credit_of n

-- the mark for a code's number: 1 withdrawn, 2 absent, 0 sign ticked, 3 sign not ticked
unfoldable pub mark_for : ℕ → ℤ → ℕ
mark_for n amount = pick (eqb n 1) 1 (pick (eqb n 0) 2 (pick (sign_ticked n amount) 0 3))

-- the mark of a movement with this code and amount, by a table
abbrev pub mark_in : List ℕ → ℕ → ℕ → ℤ → ℕ
mark_in table first second amount = mark_for (number_in table first second) amount

-- the same by annex 2
abbrev pub mark_of : ℕ → ℕ → ℤ → ℕ
mark_of first second amount = mark_in code_table first second amount

-- the number of each mark
abbrev pub mark_number : MovementMark → ℕ
mark_number Good = 0
mark_number Withdrawn = 1
mark_number Absent = 2
mark_number Unticked = 3
