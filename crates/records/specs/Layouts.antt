-- The layouts of 01, 04, 05, 05 with MMO and 07, in the paper's positions.
use Prim.Native.String.{String}
use Rattle.std.specs.Prelude.{List, [], ◌∷◌}
use Rattle.zones.specs.Class.{digit, letter, alnum, blank, permitted, flag}
use Rattle.zones.specs.Text.{bytes}
use Rattle.layouts.specs.Zone.{Kind, mark, blanks, text, either, byte, number, date, amount, Zone, zone}

-- Every record: code, bank, internal operation, branch, currency, decimals, reserved, account, interbank operation, date.
abbrev pub front : String → (internal operation : Kind) → List Zone → List Zone
front code internal operation rest =
    zone 1 2 (mark (bytes code))
    ∷ zone 3 7 (text digit)
    ∷ zone 8 11 internal
    ∷ zone 12 16 (text digit)
    ∷ zone 17 19 (text letter)
    ∷ zone 20 20 (byte digit)
    ∷ zone 21 21 blanks
    ∷ zone 22 32 (text alnum)
    ∷ zone 33 34 operation
    ∷ zone 35 40 date
    ∷ rest

-- 01 and 07: 41-90 blank, 91-104 amount, 105-120 blank
abbrev pub balance : String → List Zone
balance code = front code blanks blanks (zone 41 90 blanks ∷ zone 91 104 amount ∷ zone 105 120 blanks ∷ [])

abbrev pub layout01 : List Zone
layout01 = balance "01"

abbrev pub layout07 : List Zone
layout07 = balance "07"

-- 04: 41-42 reject reason (two digits or two blanks), 43-48 value date, 49-79 label, 80-81 blank, 82-88 entry number,
-- 89 exemption and 90 unavailability (each 0, 1 or blank), 91-104 amount, 105-120 reference
abbrev pub layout04 : List Zone
layout04 =
    front "04" (text permitted) (text alnum)
    (zone 41 42 (either digit blank)
    ∷ zone 43 48 date
    ∷ zone 49 79 (text permitted)
    ∷ zone 80 81 blanks
    ∷ zone 82 88 number
    ∷ zone 89 89 (byte flag)
    ∷ zone 90 90 (byte flag)
    ∷ zone 91 104 amount
    ∷ zone 105 120 (text permitted)
    ∷ [])

-- 05: 41-45 blank, 46-48 qualifier, 49-118 information, 119-120 blank
abbrev pub layout05 : List Zone
layout05 =
    front "05" (text permitted) (text alnum)
    (zone 41 45 blanks ∷ zone 46 48 (text alnum) ∷ zone 49 118 (text permitted) ∷ zone 119 120 blanks ∷ [])

-- With qualifier MMO the information is 49-51 currency, 52 decimals, 53-66 unsigned amount, 67-118 blank.
abbrev pub layout_mmo : List Zone
layout_mmo =
    front "05" (text permitted) (text alnum)
    (zone 41 45 blanks
    ∷ zone 46 48 (mark (bytes "MMO"))
    ∷ zone 49 51 (text letter)
    ∷ zone 52 52 (byte digit)
    ∷ zone 53 66 (text digit)
    ∷ zone 67 118 blanks
    ∷ zone 119 120 blanks
    ∷ [])
