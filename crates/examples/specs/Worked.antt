-- The worked examples that the paper marks, as one table.
use Rattle.std.specs.Prelude.{ℕ, ◌-◌, List, [], ◌∷◌, ℤ, pos, negsuc, get_or}
use Prim.Native.String.{String}
use Rattle.zones.specs.Text.{bytes}
use Rattle.amounts.specs.Amounts.{amount_of, paper_amount}
use Rattle.dates.specs.Days.{date_of, paper_date}
use Rattle.codes.specs.Code.{number_of}

-- an answer as the paper gives it: the number of a refusal, or 0 and a value
abbrev pub Answer : Type 0
Answer = ℕ × ℤ

abbrev pub value : ℕ → Answer
value n = (0, pos n)

abbrev pub minus : ℕ → Answer
minus n = (0, negsuc (n - 1))

abbrev pub refused : ℕ → Answer
refused k = (k, pos 0)

-- what the definitions give
abbrev pub amount : String → Answer
amount t = paper_amount (amount_of (bytes t))

abbrev pub date : String → Answer
date t = ((paper_date (date_of (bytes t))).0, pos (paper_date (date_of (bytes t))).1)

abbrev pub code : String → Answer
code t = value (number_of (get_or (bytes t) 0 0) (get_or (bytes t) 1 0))

-- What the definitions give, and what the paper says. `minus n` is -n, for n from 1 on.
abbrev pub worked : List (Answer × Answer)
worked =
    (amount "0000000010000{", value 100000)
    ∷ (amount "0000000000421P", minus 4217)
    ∷ (amount "0000000000000{", value 0)
    ∷ (amount "0000000000000}", value 0)
    ∷ (amount "9999999999999R", minus 99999999999999)
    ∷ (amount "00000000000005", refused 8)
    ∷ (date "290224", value 20240229)
    ∷ (date "290225", refused 9)
    ∷ (date "290200", value 20000229)
    ∷ (date "010180", value 19800101)
    ∷ (code "28", value 1189)
    ∷ (code "A3", value 1158)
    ∷ (code "01", value 65509)
    ∷ (code "16", value 1)
    ∷ []
