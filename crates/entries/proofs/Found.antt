-- The body that an entry names.
use mathlib.Core.Path.{◌≡◌, refl, sym, ap, ◌∙◌}
use mathlib.Core.Bool.{Bool, true, false}
use mathlib.Core.List.{List, []}
use Prim.Native.Nat.{ℕ, ◌+◌, ◌-◌, ◌*◌, ◌^◌, ◌<◌, ◌≤◌}
use native.Mathlib.Nat.{add-sub_cancel_left, pow-le-pow_right}
use native.Mathlib.Omega.{arith}
use lib.Dec.{eqb, leb, lit<}
use lib.ListN.{length, take, drop, length-take}
use borrow.Author.Tests.{le-leb, lt-leb}
use Rattle.zones.specs.Choice.{pick}
use Rattle.zones.specs.Number.{value_of}
use Rattle.zones.proofs.Decimal.{value_most}
use Rattle.layouts.specs.Zone.{part}
use Rattle.records.specs.July.{record_size}
use Rattle.std.specs.Prelude.{Some, None, Result, Ok, Err}
use Rattle.entries.specs.declared.Entry.{Entry}
use Rattle.entries.specs.Answers.{EntryAt, UsedAt}
use Rattle.entries.specs.Entries.{entry_size, most_entries, no_entry, line_at, is_used, Fields, fields_of, entry_of, used_entry, entry_bytes, entry_in, body_at}

-- what an entry says that the code finds
abbrev pub fields_from : Entry → Fields
fields_from x = record { used = true; first = x.first; records = x.records }

-- and of an entry that it finds used or unused
abbrev pub fields_either : Result Entry Entry → Fields
fields_either (Ok x) = fields_from x
fields_either (Err x) = record { used = false; first = x.first; records = x.records }

entry_back : (y : Fields) → fields_either (entry_of y) ≡ y
entry_back y = by y.used y.first y.records
  where
    by : (u : Bool) (f n : ℕ) → fields_either (entry_of (record { used = u; first = f; records = n })) ≡ record { used = u; first = f; records = n }
    by true f n = refl
    by false f n = refl

-- the answer says all that the entry says, used or not
pub entry_said : {j : List ℕ} {e : ℕ} {r : Result Entry Entry} → EntryAt j e r → fields_either r ≡ entry_in j e
entry_said {j} {e} p = ap fields_either p.answer ∙ entry_back (entry_in j e)

pub used_found : {y : Fields} {x : Entry} → Some x ≡ used_entry y → fields_from x ≡ y
used_found {y} {x} p = by y.used y.first y.records p
  where
    by : (u : Bool) (f n : ℕ) → Some x ≡ used_entry (record { used = u; first = f; records = n }) → fields_from x ≡ record { used = u; first = f; records = n }
    by true f n q = cc
    by false f n q = cc

pub none_found : (y : Fields) → None ≡ used_entry y → y.used ≡ false
none_found y p = by y.used y.first y.records p
  where
    by : (u : Bool) (f n : ℕ) → None ≡ used_entry (record { used = u; first = f; records = n }) → u ≡ false
    by true f n q = cc
    by false f n q = refl

-- what six and four bytes are worth at most, whatever they are
pub record Small (x : Fields) : Type 0 where
  pub first : x.first ≤ 1666665
  pub records : x.records ≤ 16665

small_value : (w most : ℕ) (s : List ℕ) → length s ≤ w → 3 * most + 5 ≡ 5 * 10 ^ w → value_of s ≤ most
small_value w most s h e = omega (arith, e, value_most s, pow-le-pow_right {n = 10} (lit< tt) h)

fields_small : (x : List ℕ) → Small (fields_of x)
unfolding fields_of
fields_small x = by (eqb (length x) entry_size)
  where
    by : (t : Bool) → Small (pick t (record { used = is_used x; first = value_of (part 38 43 x); records = value_of (part 44 47 x) }) no_entry)
    by true =
        record {
          first = small_value 6 1666665 (part 38 43 x) (omega (arith, length-take 6 (drop 37 x))) refl;
          records = small_value 4 16665 (part 44 47 x) (omega (arith, length-take 4 (drop 43 x))) refl;
        }
    by false = record { first = omega arith; records = omega arith }

in_small : (j : List ℕ) (e : ℕ) → Small (entry_in j e)
unfolding entry_in
in_small j e = by (leb most_entries e)
  where
    by : (t : Bool) → Small (pick t no_entry (fields_of (entry_bytes j e)))
    by true = record { first = omega arith; records = omega arith }
    by false = fields_small (entry_bytes j e)

pub entry_small : {j : List ℕ} {e : ℕ} {r : Result Entry Entry} → EntryAt j e r → Small (fields_either r)
entry_small {j} {e} p = rw (entry_said p) (in_small j e)

pub used_small : {j : List ℕ} {e : ℕ} {x : Entry} → UsedAt j e (Some x) → Small (fields_from x)
used_small {j} {e} p = rw (used_found p.answer) (in_small j e)

-- at the code's returns
module _ (j : List ℕ) (e : ℕ) where
  pub none_unused : None ≡ used_entry (entry_in j e) → [] ≡ body_at j e
  unfolding body_at
  none_unused p = sym (rw (none_found (entry_in j e) p))

  module _ {x : Entry} (p : Some x ≡ used_entry (entry_in j e)) where
    pub none_short : length j < line_at x.first + record_size * x.records → [] ≡ body_at j e
    unfolding body_at
    none_short l = sym (rw (← used_found p, lt-leb (line_at x.first + record_size * x.records) (length j) l))

    pub body_there : line_at x.first + record_size * x.records ≤ length j
        → take (line_at x.first + record_size * x.records - line_at x.first) (drop (line_at x.first) j) ≡ body_at j e
    unfolding body_at
    body_there l =
        rw (add-sub_cancel_left (line_at x.first) (record_size * x.records))
        (sym (rw (← used_found p, le-leb (line_at x.first + record_size * x.records) (length j) l)))
