-- Annex 2 of source document 003: the list of interbank operation codes, in its own order.
-- Where the annex has the ditto mark " ", the family of the row above is written out.
use Rattle.std.specs.Prelude.{List, [], ◌∷◌}
use Rattle.std.proofs.Math.Option.{Option, none, some}
use Prim.Native.String.{String}

-- cash, French bills, foreign, securities, charges, financing, other
pub data Family : Type 0 where
  OPCA : Family
  OPPF : Family
  OPET : Family
  OPTB : Family
  AGFR : Family
  OPFI : Family
  DIVE : Family

-- the columns that have an x
pub data Ticks : Type 0 where
  debit : Ticks
  credit : Ticks
  both : Ticks

-- code, family, ticks, generic code where there is one
pub data Row : Type 0 where
  row : String → Family → Ticks → Option String → Row

abbrev pub generic : String → Option String
generic code = some code

-- codes that are no longer used
abbrev pub withdrawn : List String
withdrawn = "16" ∷ "17" ∷ "20" ∷ "40" ∷ "50" ∷ "78" ∷ "79" ∷ []

-- the ticks are those printed, also for 36
unfoldable pub annex : List Row
annex =
    row "01" OPCA debit none ∷
    row "02" OPCA credit (generic "02") ∷
    row "03" OPCA debit none ∷
    row "04" OPCA credit none ∷
    row "05" OPCA credit (generic "05") ∷
    row "06" OPCA debit (generic "06") ∷
    row "07" OPCA debit none ∷
    row "08" OPCA debit (generic "08") ∷
    row "09" OPCA credit (generic "09") ∷
    row "10" OPCA debit (generic "10") ∷
    row "11" OPCA both (generic "11") ∷
    row "12" OPCA credit none ∷
    row "13" OPCA credit (generic "05") ∷
    row "14" OPCA debit (generic "06") ∷
    row "15" OPCA credit (generic "02") ∷
    row "18" OPCA credit (generic "05") ∷
    row "21" OPCA debit (generic "06") ∷
    row "22" OPCA debit (generic "08") ∷
    row "23" OPCA debit (generic "08") ∷
    row "24" OPCA credit (generic "09") ∷
    row "25" OPCA credit (generic "09") ∷
    row "26" OPCA debit (generic "10") ∷
    row "27" OPCA debit (generic "10") ∷
    row "28" OPCA debit (generic "11") ∷
    row "29" OPCA debit (generic "11") ∷
    row "30" OPCA credit (generic "11") ∷
    row "31" OPPF credit (generic "31") ∷
    row "32" OPPF credit (generic "32") ∷
    row "33" OPPF debit none ∷
    row "34" OPPF both none ∷
    row "35" OPPF credit (generic "31") ∷
    row "36" OPCA debit (generic "11") ∷
    row "37" OPPF credit (generic "32") ∷
    row "38" OPCA debit (generic "11") ∷
    row "39" OPCA credit (generic "05") ∷
    row "41" OPET both (generic "41") ∷
    row "42" OPET both (generic "42") ∷
    row "43" OPET both (generic "43") ∷
    row "44" OPET debit (generic "41") ∷
    row "45" OPET credit (generic "41") ∷
    row "46" OPET debit (generic "42") ∷
    row "47" OPET credit (generic "42") ∷
    row "48" OPET debit (generic "42") ∷
    row "49" OPET credit (generic "42") ∷
    row "51" OPTB both (generic "51") ∷
    row "52" OPTB both (generic "52") ∷
    row "53" OPTB debit (generic "51") ∷
    row "54" OPTB credit (generic "51") ∷
    row "55" OPTB both (generic "51") ∷
    row "56" OPTB debit (generic "51") ∷
    row "57" OPTB credit (generic "51") ∷
    row "58" OPTB debit (generic "51") ∷
    row "59" OPTB credit (generic "51") ∷
    row "61" AGFR both (generic "61") ∷
    row "62" AGFR debit (generic "62") ∷
    row "63" AGFR credit (generic "61") ∷
    row "64" AGFR debit (generic "62") ∷
    row "65" AGFR debit (generic "62") ∷
    row "66" AGFR debit (generic "62") ∷
    row "67" AGFR debit (generic "62") ∷
    row "68" OPET debit (generic "43") ∷
    row "69" OPET credit (generic "43") ∷
    row "70" AGFR debit (generic "61") ∷
    row "71" OPFI credit none ∷
    row "72" OPFI debit none ∷
    row "73" OPFI credit none ∷
    row "74" OPFI credit none ∷
    row "75" OPFI debit none ∷
    row "76" OPFI debit none ∷
    row "77" OPFI credit none ∷
    row "80" OPTB debit (generic "51") ∷
    row "81" OPTB credit (generic "51") ∷
    row "82" OPTB both (generic "51") ∷
    row "83" OPTB both (generic "51") ∷
    row "84" OPTB debit (generic "51") ∷
    row "85" OPTB credit (generic "51") ∷
    row "86" OPTB both (generic "52") ∷
    row "87" OPTB credit (generic "52") ∷
    row "88" OPTB debit (generic "52") ∷
    row "89" OPTB credit (generic "52") ∷
    row "90" OPCA debit (generic "06") ∷
    row "91" DIVE both none ∷
    row "92" OPCA both none ∷
    row "93" OPCA both none ∷
    row "94" OPCA credit none ∷
    row "95" OPCA debit none ∷
    row "96" OPCA debit (generic "08") ∷
    row "97" OPCA credit (generic "09") ∷
    row "98" OPCA debit (generic "10") ∷
    row "99" DIVE both none ∷
    row "A1" OPCA credit (generic "09") ∷
    row "A2" OPCA credit (generic "09") ∷
    row "A3" OPCA credit (generic "10") ∷
    row "A4" OPCA credit (generic "10") ∷
    row "A5" OPCA debit (generic "10") ∷
    row "A6" OPCA debit (generic "10") ∷
    row "B1" OPCA debit (generic "08") ∷
    row "B2" OPCA debit (generic "08") ∷
    row "B3" OPCA debit (generic "10") ∷
    row "B4" OPCA debit (generic "10") ∷
    row "B5" OPCA credit (generic "10") ∷
    row "B6" OPCA credit (generic "10") ∷
    []
