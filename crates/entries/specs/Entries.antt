-- The journal's table of contents. A journal has 7,680 plus 120n bytes, n from 0 to 100,000: first 128 entries of 60 bytes, then n body lines.
--
--     0          60                  7,620         7,680       7,800
--     | entry 1  | entry 2  |  ..   | entry 128   | line 0    | line 1    |  ..  | line n - 1  |
--
-- An entry, in positions counted from 1:
--
--     1-5 bank | 6-10 branch | 11-13 currency | 14 decimals | 15-25 account | 26-31 old date | 32-37 new date
--     | 38-43 first body line, from 0 | 44-47 number of records | 48-60 blank
use Rattle.std.specs.Prelude.{Bool, false, not, ◌&&◌, List, [], ◌∷◌, ℕ, ◌+◌, ◌*◌, eqb, leb, ltb, length, take, drop, get_or, replicate, Option, Some, None, Result, Ok, Err}
use Rattle.zones.specs.Choice.{pick}
use Rattle.zones.specs.Number.{value_of, digits_of}
use Rattle.zones.specs.Pieces.{flat}
use Rattle.dates.specs.Days.{date_of}
use Rattle.layouts.specs.Zone.{part, day_in}
use Rattle.records.specs.July.{record_size}
use Rattle.records.specs.Tests.{both_records}
use Rattle.entries.specs.declared.Entry.{Entry}

abbrev pub most_entries : ℕ
most_entries = 128

abbrev pub entry_size : ℕ
entry_size = 60

abbrev pub table_size : ℕ
table_size = most_entries * entry_size

-- the first byte of body line k
abbrev pub line_at : ℕ → ℕ
line_at k = table_size + record_size * k

-- key and dates stand as in the 01 and 07
unfoldable pub key_text : List ℕ → List ℕ
key_text o = flat (part 3 7 o ∷ part 12 16 o ∷ part 17 19 o ∷ part 20 20 o ∷ part 22 32 o ∷ [])

unfoldable pub dates_text : (o c : List ℕ) → List ℕ
dates_text o c = flat (part 35 40 o ∷ part 35 40 c ∷ [])

-- first body line, number of records, blanks
unfoldable pub place_text : (first n : ℕ) → List ℕ
place_text first n = flat (digits_of 6 first ∷ digits_of 4 n ∷ replicate 13 32 ∷ [])

-- the entry of n records from a line on, whose 01 and 07 these are
unfoldable pub entry_text : (first n : ℕ) → (o c : List ℕ) → List ℕ
entry_text first n o c = flat (key_text o ∷ dates_text o c ∷ place_text first n ∷ [])

-- into 60 bytes, where both are records; else nothing is written
unfoldable pub entry_put : (first n : ℕ) → (o c dst : List ℕ) → List ℕ
entry_put first n o c dst = pick (eqb (length dst) entry_size && both_records o c) (entry_text first n o c) dst

-- what an entry says of its body; for any 60 bytes
pub record Fields : Type 0 where
  pub used : Bool
  pub first : ℕ
  pub records : ℕ

abbrev pub no_entry : Fields
no_entry = record { used = false; first = 0; records = 0 }

-- AN ENTRY IS USED where position 44 is not blank: its number of records begins there.
abbrev pub is_used : List ℕ → Bool
is_used x = not (eqb (get_or x 43 0) 32)

unfoldable pub fields_of : List ℕ → Fields
fields_of x =
    pick (eqb (length x) entry_size)
    (record { used = is_used x; first = value_of (part 38 43 x); records = value_of (part 44 47 x) })
    no_entry

-- an entry as the code gives it: Ok where it is used, Err where it is not, with the same numbers
abbrev pub entry_of : Fields → Result Entry Entry
entry_of x = pick x.used (Ok (record { first = x.first; records = x.records })) (Err (record { first = x.first; records = x.records }))

-- the same where only a used one counts
abbrev pub used_entry : Fields → Option Entry
used_entry x = pick x.used (Some (record { first = x.first; records = x.records })) None

-- the bytes of entry e, from 0
abbrev pub entry_bytes : List ℕ → ℕ → List ℕ
entry_bytes j e = take entry_size (drop (entry_size * e) j)

-- whether they are all there
abbrev pub entry_there : List ℕ → ℕ → Bool
entry_there j e = ltb e most_entries && leb (entry_size * e + entry_size) (length j)

unfoldable pub entry_in : List ℕ → ℕ → Fields
entry_in j e = pick (leb most_entries e) no_entry (fields_of (entry_bytes j e))

-- A ROW: what an entry says of its statement, for any 60 bytes. The account key, the old date and the new one, each as eight digits YYYYMMDD,
-- zeros where the date does not exist.
abbrev pub row_size : ℕ
row_size = 41

unfoldable pub row_of : List ℕ → List ℕ
row_of x = flat (part 1 25 x ∷ digits_of 8 (day_in (date_of (part 26 31 x))) ∷ digits_of 8 (day_in (date_of (part 32 37 x))) ∷ [])

-- the row of entry e, from 0, into 41 bytes; nothing is written where there is no such entry
unfoldable pub row_put : (j : List ℕ) → (e : ℕ) → (dst : List ℕ) → List ℕ
row_put j e dst =
    pick (eqb (length dst) row_size && entry_there j e) (row_of (entry_bytes j e)) dst

-- n lines from line k on
abbrev pub lines_from : List ℕ → (k n : ℕ) → List ℕ
lines_from j k n = take (record_size * n) (drop (line_at k) j)

-- the lines that entry e names, none where it is unused or they are not all there
abbrev pub body_by : List ℕ → Fields → List ℕ
body_by j x = pick (x.used && leb (line_at x.first + record_size * x.records) (length j)) (lines_from j x.first x.records) []

unfoldable pub body_at : List ℕ → ℕ → List ℕ
body_at j e = body_by j (entry_in j e)
