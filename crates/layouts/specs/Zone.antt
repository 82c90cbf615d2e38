-- Zones of a record in the paper's positions: their kinds, what each asks of its bytes, and its value.
use Rattle.std.specs.Prelude.{ℕ, ◌+◌, ◌-◌, ◌^◌, Bool, true, ◌&&◌, ◌||◌, List, [], ◌∷◌, ◌++◌, leb, ltb, eqb, length, take, drop, get_or, replicate, ℤ, pos, Option, is_some, unwrap_or}
use Rattle.zones.specs.Class.{Class, digit, blank, permitted, in_class, all}
use Rattle.zones.specs.Copy.{same_bytes}
use Rattle.zones.specs.Number.{value_of, digits_of}
use Rattle.amounts.specs.Amounts.{is_amount, amount_of, amount_text, as_written, has_amount}
use Rattle.dates.specs.Days.{date_of, date_text, is_day}

-- positions first to last, counted from 1
abbrev pub part : (first last : ℕ) → List ℕ → List ℕ
part first last r = take (last + 1 - first) (drop (first - 1) r)

-- Always the same bytes; blanks; bytes of a class, kept as they stand; bytes of one class or all of another; one byte of a class; digits as a number;
-- a date; an amount.
pub data Kind : Type 0 where
  mark : List ℕ → Kind
  blanks : Kind
  text : Class → Kind
  either : Class → Class → Kind
  byte : Class → Kind
  number : Kind
  date : Kind
  amount : Kind

-- first and last position
pub data Zone : Type 0 where
  zone : (first last : ℕ) → Kind → Zone

-- the values of a kind
abbrev pub El : Kind → Type 0
El (mark t) = Unit {0}
El blanks = Unit {0}
El (text c) = List ℕ
El (either c d) = List ℕ
El (byte c) = ℕ
El number = ℕ
El date = ℕ
El amount = ℤ

-- the number of a date, 0 where there is none
abbrev pub day_in : Option ℕ → ℕ
day_in d = unwrap_or d 0

abbrev pub is_date : Option ℕ → Bool
is_date d = is_some d

-- the value of an amount, 0 where there is none
abbrev pub value_in : Option ℤ → ℤ
value_in a = unwrap_or a (pos 0)

-- a zone's value, for any bytes
abbrev pub get : (k : Kind) → List ℕ → El k
get (mark t) z = tt
get blanks z = tt
get (text c) z = z
get (either c d) z = z
get (byte c) z = get_or z 0 0
get number z = value_of z
get date z = day_in (date_of z)
get amount z = value_in (amount_of z)

-- a value's bytes in a zone of width w
abbrev pub put : ℕ → (k : Kind) → El k → List ℕ
put w (mark t) v = t
put w blanks v = replicate w 32
put w (text c) v = v
put w (either c d) v = v
put w (byte c) v = v ∷ []
put w number v = digits_of w v
put w date v = date_text v
put w amount v = amount_text v

-- a zone's bytes as the writer writes them: only an amount can have stood otherwise
abbrev pub as_written_in : Kind → List ℕ → List ℕ
as_written_in (mark t) z = z
as_written_in blanks z = z
as_written_in (text c) z = z
as_written_in (either c d) z = z
as_written_in (byte c) z = z
as_written_in number z = z
as_written_in date z = z
as_written_in amount z = as_written z

-- a value that a zone of width w can hold
abbrev pub holds : ℕ → (k : Kind) → El k → Bool
holds w (mark t) v = true
holds w blanks v = true
holds w (text c) v = eqb (length v) w && all c v
holds w (either c d) v = eqb (length v) w && (all c v || all d v)
holds w (byte c) v = in_class c v
holds w number v = ltb v (10 ^ w)
holds w date v = is_day v
holds w amount v = has_amount v

-- what a rule asks of a kind's bytes
pub data Ask : Type 0 where
  nothing : Ask
  test : (List ℕ → Bool) → Ask

abbrev pub passes : Ask → List ℕ → Bool
passes nothing z = true
passes (test p) z = p z

-- 6: the marks
abbrev pub marked : Kind → Ask
marked (mark t) = test (same_bytes t)
marked blanks = nothing
marked (text c) = nothing
marked (either c d) = nothing
marked (byte c) = nothing
marked number = nothing
marked date = nothing
marked amount = nothing

-- 8: the zones and the amounts
abbrev pub zoned : Kind → Ask
zoned (mark t) = nothing
zoned blanks = test (all blank)
zoned (text c) = test (all c)
zoned (either c d) = test (λ z. all c z || all d z)
zoned (byte c) = test (all c)
zoned number = test (all digit)
zoned date = test (all digit)
zoned amount = test is_amount

-- 9: the dates
abbrev pub dated : Kind → Ask
dated (mark t) = nothing
dated blanks = nothing
dated (text c) = nothing
dated (either c d) = nothing
dated (byte c) = nothing
dated number = nothing
dated date = test (λ z. is_date (date_of z))
dated amount = nothing

-- a rule asked of each zone, in the order of the list
abbrev pub asked : Ask → Bool → List ℕ → Bool
asked nothing ok z = ok
asked (test p) ok z = ok && p z

abbrev pub run_after : (Kind → Ask) → Bool → List Zone → List ℕ → Bool
run_after r ok [] b = ok
run_after r ok (zone a z k ∷ zs) b = run_after r (asked (r k) ok (part a z b)) zs b

abbrev pub run : (Kind → Ask) → List Zone → List ℕ → Bool
run r zs b = run_after r true zs b

-- the values of a layout, in the order of its zones
abbrev pub Values : List Zone → Type 0
Values [] = Unit {0}
Values (zone a z k ∷ zs) = El k × Values zs

abbrev pub decode : (zs : List Zone) → List ℕ → Values zs
decode [] b = tt
decode (zone a z k ∷ zs) b = (get k (part a z b), decode zs b)

abbrev pub encode : (zs : List Zone) → Values zs → List ℕ
encode [] v = []
encode (zone a z k ∷ zs) v = put (z + 1 - a) k v.0 ++ encode zs v.1

-- a record's bytes as the writer writes them, zone by zone
abbrev pub canon : List Zone → List ℕ → List ℕ
canon [] b = []
canon (zone a z k ∷ zs) b = as_written_in k (part a z b) ++ canon zs b

-- values that the zones can hold
abbrev pub holds_all : (zs : List Zone) → Values zs → Bool
holds_all [] v = true
holds_all (zone a z k ∷ zs) v = holds (z + 1 - a) k v.0 && holds_all zs v.1

-- a kind that has its width; a mark is of permitted bytes
abbrev pub wide : ℕ → Kind → Bool
wide w (mark t) = eqb (length t) w && all permitted t
wide w blanks = true
wide w (text c) = true
wide w (either c d) = true
wide w (byte c) = eqb w 1
wide w number = true
wide w date = eqb w 6
wide w amount = eqb w 14

-- the zones from position p + 1 on meet end to end and stop at n: no gap, no overlap
abbrev pub covers : ℕ → ℕ → List Zone → Bool
covers p n [] = eqb p n
covers p n (zone a z k ∷ zs) = (eqb a (p + 1) && leb a z) && (wide (z + 1 - a) k && covers z n zs)
