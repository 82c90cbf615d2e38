-- One law per kind and direction: bytes to a value and back, a value to bytes and back.
use mathlib.Core.Path.{◌≡◌, refl, ap, sym, ◌∙◌}
use mathlib.Core.Bool.{Bool, true, false, false≢true}
use mathlib.Core.List.{List, [], ◌∷◌}
use Prim.Native.Nat.{ℕ, ◌^◌}
use native.Mathlib.Omega.{arith}
use lib.Dec.{eqb}
use lib.ListN.{length, get_or, length-replicate}
use lib.IntN.{ℤ}
use borrow.Author.Tests.{eqb-true, eq-eqb, ltb-true, lt-ltb}
use Rattle.zones.specs.Choice.{pick}
use Rattle.zones.specs.Class.{Class, digit, blank, permitted, in_class, every, all}
use Rattle.zones.specs.Number.{value_of, value_from}
use Rattle.zones.proofs.Bools.{and_left, and_right, both, either as by_either}
use Rattle.zones.proofs.Every.{class_permitted, blanks_are, are_blanks}
use Rattle.zones.proofs.Copies.{same_equal, equal_same}
use Rattle.zones.proofs.Decimal.{value_digits, digits_value, length_digits, digits_all, value_below}
use Rattle.amounts.specs.Amounts.{sign_index, sign_of, is_amount, amount_of, signed_of, is_debit, magnitude, debit_zero, credit_zero}
use Rattle.std.specs.Prelude.{Option, Some, None}
use Rattle.amounts.proofs.RoundTrip as amounts
use Rattle.dates.specs.Days.{date_of}
use Rattle.dates.proofs.RoundTrip as dates
use Rattle.layouts.specs.Zone.{Kind, mark, blanks, text, either, byte, number, date, amount, El, day_in, is_date, value_in, get, put, as_written_in, holds, passes, marked, zoned, dated, wide}

-- the bytes of a zone pass all that the three rules ask
pub record Right (k : Kind) (z : List ℕ) : Type 0 where
  pub mark : passes (marked k) z ≡ true
  pub zone : passes (zoned k) z ≡ true
  pub date : passes (dated k) z ≡ true

one : (z : List ℕ) → length z ≡ 1 → get_or z 0 0 ∷ [] ≡ z
one [] e = absurd (omega arith)
one (x ∷ []) e = refl
one (x ∷ y ∷ z) e = absurd (omega arith)

all_one : (c : Class) (z : List ℕ) → length z ≡ 1 → all c z ≡ true → in_class c (get_or z 0 0) ≡ true
unfolding every
all_one c [] e h = absurd (omega arith)
all_one c (x ∷ []) e h = and_left (in_class c x) _ h
all_one c (x ∷ y ∷ z) e h = absurd (omega arith)

one_all : (c : Class) (v : ℕ) → in_class c v ≡ true → all c (v ∷ []) ≡ true
unfolding every
one_all c v h = both h refl

-- a date that exists has its number, and an amount its value
dated_is : (d : Option ℕ) → is_date d ≡ true → d ≡ Some (day_in d)
dated_is (Some k) h = refl
dated_is None h = absurd (false≢true h)

valued_is : (z : List ℕ) → is_amount z ≡ true → amount_of z ≡ Some (value_in (amount_of z))
unfolding amount_of
valued_is z h = rw h

is_amount_lem : (z : List ℕ) (v : ℤ) → amount_of z ≡ Some v → is_amount z ≡ true
unfolding amount_of
is_amount_lem z v = by (is_amount z) refl
  where
    by : (t : Bool) → is_amount z ≡ t → pick t (Some (signed_of (is_debit z) (magnitude z))) None ≡ Some v → t ≡ true
    by true e h = refl
    by false e h = let n : ◌≡◌ {A = ℕ} 0 1 = cc in absurd (omega arith)

-- what does not tell the two zeros of an amount apart does not tell a zone's bytes from their written form
pub alike : {A : Kind → Type 0} (g : (k : Kind) → List ℕ → A k) → g amount credit_zero ≡ g amount debit_zero → (k : Kind) (z : List ℕ)
    → g k (as_written_in k z) ≡ g k z
alike g e (mark t) z = refl
alike g e blanks z = refl
alike g e (text c) z = refl
alike g e (either c d) z = refl
alike g e (byte c) z = refl
alike g e number z = refl
alike g e date z = refl
alike g e amount z = amounts.alike (g amount) e z

-- all kinds but an amount are always written as they stand
abbrev pub fixed : Kind → Bool
fixed (mark t) = true
fixed blanks = true
fixed (text c) = true
fixed (either c d) = true
fixed (byte c) = true
fixed number = true
fixed date = true
fixed amount = false

-- what is no amount is written as it stands
pub still : (k : Kind) (z : List ℕ) → fixed k ≡ true → as_written_in k z ≡ z
still (mark t) z h = refl
still blanks z h = refl
still (text c) z h = refl
still (either c d) z h = refl
still (byte c) z h = refl
still number z h = refl
still date z h = refl
still amount z h = absurd (false≢true h)

-- the bytes of the value of a zone are those that it takes, as the writer writes them
pub put_get : (k : Kind) (w : ℕ) (z : List ℕ) → wide w k ≡ true → length z ≡ w → Right k z → put w k (get k z) ≡ as_written_in k z
put_get (mark t) w z g e r = same_equal t z r.mark
put_get blanks w z g e r = rw (← e) (sym (blanks_are z r.zone))
put_get (text c) w z g e r = refl
put_get (either c d) w z g e r = refl
put_get (byte c) w z g e r = one z (e ∙ eqb-true w 1 g)
put_get number w z g e r = digits_value w z e r.zone
put_get date w z g e r = dates.text_read z (day_in (date_of z)) (dated_is (date_of z) r.date)
put_get amount w z g e r = amounts.text_read z (value_in (amount_of z)) (valued_is z r.zone)

-- and the value is one that the zone can hold
pub holds_get : (k : Kind) (w : ℕ) (z : List ℕ) → wide w k ≡ true → length z ≡ w → Right k z → holds w k (get k z) ≡ true
holds_get (mark t) w z g e r = refl
holds_get blanks w z g e r = refl
holds_get (text c) w z g e r = both (eq-eqb (length z) w e) r.zone
holds_get (either c d) w z g e r = both (eq-eqb (length z) w e) r.zone
holds_get (byte c) w z g e r = all_one c z (e ∙ eqb-true w 1 g) r.zone
holds_get number w z g e r = lt-ltb (value_of z) (10 ^ w) (rw (← e) (value_below z r.zone))
holds_get date w z g e r = dates.read_day z (day_in (date_of z)) (dated_is (date_of z) r.date)
holds_get amount w z g e r = amounts.read_has z (value_in (amount_of z)) (valued_is z r.zone)

-- a value that a zone can hold is the value of its bytes
pub get_put : (k : Kind) (w : ℕ) (v : El k) → holds w k v ≡ true → get k (put w k v) ≡ v
get_put (mark t) w v h = refl
get_put blanks w v h = refl
get_put (text c) w v h = refl
get_put (either c d) w v h = refl
get_put (byte c) w v h = refl
get_put number w v h = value_digits w v (ltb-true v (10 ^ w) h)
get_put date w v h = ap day_in (dates.read_text v h)
get_put amount w v h = ap value_in (amounts.read_text v h)

pub length_put : (k : Kind) (w : ℕ) (v : El k) → wide w k ≡ true → holds w k v ≡ true → length (put w k v) ≡ w
length_put (mark t) w v g h = eqb-true (length t) w (and_left (eqb (length t) w) _ g)
length_put blanks w v g h = length-replicate w 32
length_put (text c) w v g h = eqb-true (length v) w (and_left (eqb (length v) w) _ h)
length_put (either c d) w v g h = eqb-true (length v) w (and_left (eqb (length v) w) _ h)
length_put (byte c) w v g h = sym (eqb-true w 1 g)
length_put number w v g h = length_digits w v
length_put date w v g h = dates.length_text v ∙ sym (eqb-true w 6 g)
length_put amount w v g h = amounts.length_text v ∙ sym (eqb-true w 14 g)

-- and its bytes are such as the zone takes
pub right_put : (k : Kind) (w : ℕ) (v : El k) → holds w k v ≡ true → Right k (put w k v)
right_put (mark t) w v h = record { mark = equal_same t; zone = refl; date = refl }
right_put blanks w v h = record { mark = refl; zone = are_blanks w; date = refl }
right_put (text c) w v h = record { mark = refl; zone = and_right (eqb (length v) w) _ h; date = refl }
right_put (either c d) w v h = record { mark = refl; zone = and_right (eqb (length v) w) _ h; date = refl }
right_put (byte c) w v h = record { mark = refl; zone = one_all c v h; date = refl }
right_put number w v h = record { mark = refl; zone = digits_all w v; date = refl }
right_put date w v h = record { mark = refl; zone = dates.text_digits v; date = rw (dates.read_text v h) }
right_put amount w v h = record { mark = refl; zone = is_amount_lem _ v (amounts.read_text v h); date = refl }

-- both zeros are of permitted bytes
pub zeros_permitted : all permitted credit_zero ≡ all permitted debit_zero
unfolding every
zeros_permitted = refl

-- both are amounts
pub zeros_zoned : passes (zoned amount) credit_zero ≡ passes (zoned amount) debit_zero
unfolding every sign_of sign_index
zeros_zoned = refl

-- of the same value
pub zeros_value : get amount credit_zero ≡ get amount debit_zero
unfolding amount_of every is_debit magnitude sign_of sign_index value_from
zeros_value = refl

-- bytes that a zone takes are permitted
pub right_permitted : (k : Kind) (w : ℕ) (z : List ℕ) → wide w k ≡ true → Right k z → all permitted z ≡ true
right_permitted (mark t) w z g r = rw (← same_equal t z r.mark) (and_right (eqb (length t) w) _ g)
right_permitted blanks w z g r = class_permitted blank z r.zone
right_permitted (text c) w z g r = class_permitted c z r.zone
right_permitted (either c d) w z g r = by_either (all c z) (all d z) (class_permitted c z) (class_permitted d z) r.zone
right_permitted (byte c) w z g r = class_permitted c z r.zone
right_permitted number w z g r = class_permitted digit z r.zone
right_permitted date w z g r = class_permitted digit z r.zone
right_permitted amount w z g r =
    sym (alike (λ k. all permitted) zeros_permitted amount z)
    ∙ rw (← amounts.text_read z (value_in (amount_of z)) (valued_is z r.zone)) (amounts.text_permitted (value_in (amount_of z)))
