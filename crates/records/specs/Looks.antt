-- What the code needs to know of a record.
use Rattle.std.specs.Prelude.{Bool, true, false, ◌||◌, List, ℕ, eqb, length, ℤ, pos, Option, Some, None, is_some, unwrap_or}
use Rattle.zones.specs.Choice.{pick}
use Rattle.zones.specs.Class.{Class, permitted, all}
use Rattle.layouts.specs.Zone.{part}
use Rattle.records.specs.declared.Kind.{Kind}
use Rattle.records.specs.declared.Kind.TheVariants.{Opening, Movement, Complement, Closing}
use Rattle.records.specs.declared.Look.{Look}
use Rattle.records.specs.July.{record_size, is_code, is_mmo, misfit, undated, date_in, amount_in}

-- the kind of a record, by its code; none where the code is unknown
unfoldable pub kind_of : List ℕ → Option Kind
kind_of b =
    pick (is_code "01" b) (Some Opening)
    (pick (is_code "04" b) (Some Movement)
    (pick (is_code "05" b) (Some Complement) (pick (is_code "07" b) (Some Closing) None)))

-- the kind by whose layout a record is judged: that of a 07 where the code is unknown
abbrev pub judged_as : List ℕ → Kind
judged_as b = unwrap_or (kind_of b) Closing

-- a kind's code as a number
abbrev pub code_of : Kind → ℕ
code_of Opening = 1
code_of Movement = 4
code_of Complement = 5
code_of Closing = 7

abbrev pub has_value : Option ℤ → Bool
has_value a = is_some a

abbrev pub either_of : Class → Class → List ℕ → Bool
either_of c d z = all c z || all d z

-- a record of another length than 120 is none
abbrev pub no_record : Look
no_record = record { kind = None; misfit = true; undated = true; day = 0; amount = pos 0; mmo = false; permitted = false }

unfoldable pub look_of : List ℕ → Look
look_of b =
    pick (eqb (length b) record_size)
    (record {
      kind = kind_of b;
      misfit = misfit b;
      undated = undated b;
      day = date_in b;
      amount = amount_in b;
      mmo = is_mmo (part 46 118 b);
      permitted = all permitted b;
    })
    no_record
