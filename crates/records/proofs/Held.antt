-- What a 05 can hold, zone by zone, is what the rules 8 and 9 ask of its record.
use mathlib.Core.Path.{◌≡◌, refl, sym, ap, ◌∙◌}
use mathlib.Core.Bool.{Bool, true, false, false≢true}
use mathlib.Core.List.{List, [], ◌∷◌, ◌++◌}
use Prim.Native.Nat.{ℕ, zero, suc, ◌+◌, ◌<◌, ◌≤◌}
use Prim.Native.String.{String}
use native.Mathlib.Omega.{arith}
use lib.ListN.{length, take, drop, get_or, replicate, length-drop}
use lib.Seq.{length-take-le, take-take, drop-drop, drop_at, take-add}
use Rattle.zones.specs.Choice.{pick}
use Rattle.zones.specs.Class.{digit, letter, alnum, blank, permitted, in_class, every, all}
use Rattle.zones.specs.Text.{bytes}
use Rattle.zones.proofs.Bools.{both}
use Rattle.zones.proofs.Every.{every_append, class_permitted, are_blanks}
use Rattle.zones.proofs.Copies.{same_equal}
use Rattle.dates.specs.Days.{date_of, is_day}
use Rattle.std.specs.Prelude.{Option, Some, None}
use Rattle.dates.proofs.RoundTrip as dates
use Rattle.layouts.specs.Zone as Z
use Rattle.layouts.specs.Zone.{part, Zone, zone, day_in, is_date, zoned, dated, run}
use Rattle.layouts.proofs.PerKind.{holds_get}
use Rattle.layouts.proofs.PerLayout.{passes_zone, zone_at}
use Rattle.records.specs.Layouts.{front, layout05, layout_mmo}
use Rattle.records.specs.July.{record_size, text_size, is_mmo, layout05_of, write_complement, HoldsRepeated, HoldsMmo, HoldsText}
use Rattle.records.proofs.Valued.{Judged}
use Rattle.records.proofs.Complements.{Placed, placed}

-- a part of a part
inside : (n m l : ℕ) (x : List ℕ) → m + n ≤ l → take n (drop m (take l x)) ≡ take n (drop m x)
inside n zero l x h = take-take n l x (omega arith)
inside n (suc m) zero x h = absurd (omega arith)
inside n (suc m) (suc l) [] h = refl
inside n (suc m) (suc l) (y ∷ x) h = inside n m l x (omega arith)

sub_part : (n m l p : ℕ) (x : List ℕ) → m + n ≤ l → take n (drop m (take l (drop p x))) ≡ take n (drop (p + m) x)
sub_part n m l p x h = inside n m l (drop p x) h ∙ ap (take n) (drop-drop m p x)

-- BYTES TO VALUES
-- any record with the front of a 04 has in 3-40 what a 05 can repeat
pub holds_repeated : (code : String) {rest : List Zone} (b : List ℕ) → length b ≡ record_size → Judged (front code (Z.text permitted) (Z.text alnum) rest) b
    → HoldsRepeated (part 3 40 b)
holds_repeated code {rest} b l j =
    record {
      size = length-take-le 38 (drop 2 b) (rw length-drop (omega arith));
      bank = ap (all digit) (at 5 0 (omega arith)) ∙ z 1 (omega arith);
      internal = ap (all permitted) (at 4 5 (omega arith)) ∙ z 2 (omega arith);
      branch = ap (all digit) (at 5 9 (omega arith)) ∙ z 3 (omega arith);
      currency = ap (all letter) (at 3 14 (omega arith)) ∙ z 4 (omega arith);
      decimals = ap (all digit) (at 1 17 (omega arith)) ∙ z 5 (omega arith);
      reserved = ap (all blank) (at 1 18 (omega arith)) ∙ z 6 (omega arith);
      account = ap (all alnum) (at 11 19 (omega arith)) ∙ z 7 (omega arith);
      operation = ap (all alnum) (at 2 30 (omega arith)) ∙ z 8 (omega arith);
      date = ap (λ (x : List ℕ). is_day (day_in (date_of x))) (at 6 32 (omega arith)) ∙ day;
    }
  where
    zs : List Zone
    zs = front code (Z.text permitted) (Z.text alnum) rest

    at : (n m : ℕ) → m + n ≤ 38 → take n (drop m (part 3 40 b)) ≡ take n (drop (2 + m) b)
    at n m h = sub_part n m 38 2 b h

    z : (i : ℕ) → i < 10 → passes_zone zoned (get_or zs i (zone 0 0 Z.blanks)) b ≡ true
    z i h = zone_at zoned zs b i (zone 0 0 Z.blanks) (omega arith) j.zones

    day : is_day (day_in (date_of (part 35 40 b))) ≡ true
    day =
        holds_get Z.date 6 (part 35 40 b) refl (length-take-le 6 (drop 34 b) (rw length-drop (omega arith)))
        (record { mark = refl; zone = z 9 (omega arith); date = zone_at dated zs b 9 (zone 0 0 Z.blanks) (omega arith) j.dates })

-- two parts side by side
joined : (p a b : ℕ) (t : List ℕ) → all permitted (take a (drop p t)) ≡ true → all permitted (take b (drop (p + a) t)) ≡ true → all permitted (take (a + b) (drop p t)) ≡ true
joined p a b t g h = rw (take-add a b (drop p t), drop-drop a p t) (every_append (in_class permitted) (take a (drop p t)) (take b (drop (p + a) t)) g h)

-- an MMO's qualifier and information are such as any 05 can hold
mmo_qualifier : (t : List ℕ) → is_mmo t ≡ true → all alnum (take 3 t) ≡ true
unfolding is_mmo every
mmo_qualifier t m = ap (all alnum) (sym (same_equal (bytes "MMO") (take 3 t) m))

pub mmo_text : (t : List ℕ) → length t ≡ text_size → is_mmo t ≡ true → HoldsMmo t → HoldsText t
mmo_text t l m h =
    record {
      size = l;
      qualifier = mmo_qualifier t m;
      information = joined 3 18 52 t
          (joined 3 4 14 t (joined 3 3 1 t (class_permitted letter _ h.currency) (class_permitted digit _ h.decimals)) (class_permitted digit _ h.amount))
          (class_permitted blank _ h.rest);
      mmo = λ _. h;
    }

holds_text : (b : List ℕ) → length b ≡ record_size → Judged (layout05_of (part 46 118 b)) b → HoldsText (part 46 118 b)
holds_text b l j = by (is_mmo (part 46 118 b)) refl j.zones
  where
    size : length (part 46 118 b) ≡ text_size
    size = length-take-le text_size (drop 45 b) (rw length-drop (omega arith))

    at : (n m : ℕ) → m + n ≤ text_size → take n (drop m (part 46 118 b)) ≡ take n (drop (45 + m) b)
    at n m h = sub_part n m text_size 45 b h

    by : (x : Bool) → is_mmo (part 46 118 b) ≡ x → run zoned (pick x layout_mmo layout05) b ≡ true → HoldsText (part 46 118 b)
    by true m z =
        mmo_text (part 46 118 b) size m
        (record {
          currency = ap (all letter) (at 3 3 (omega arith)) ∙ zone_at zoned layout_mmo b 12 (zone 0 0 Z.blanks) (omega arith) z;
          decimals = ap (all digit) (at 1 6 (omega arith)) ∙ zone_at zoned layout_mmo b 13 (zone 0 0 Z.blanks) (omega arith) z;
          amount = ap (all digit) (at 14 7 (omega arith)) ∙ zone_at zoned layout_mmo b 14 (zone 0 0 Z.blanks) (omega arith) z;
          rest = ap (all blank) (at 52 21 (omega arith)) ∙ zone_at zoned layout_mmo b 15 (zone 0 0 Z.blanks) (omega arith) z;
        })
    by false m z =
        record {
          size = size;
          qualifier = ap (all alnum) (at 3 0 (omega arith)) ∙ zone_at zoned layout05 b 11 (zone 0 0 Z.blanks) (omega arith) z;
          information = ap (all permitted) (at 70 3 (omega arith)) ∙ zone_at zoned layout05 b 12 (zone 0 0 Z.blanks) (omega arith) z;
          mmo = λ g. absurd (false≢true (sym m ∙ g));
        }

-- so any 05 that fits holds in 3-40 and 46-118 what a 05 can hold
pub judged_held : (b : List ℕ) → length b ≡ record_size → Judged (layout05_of (part 46 118 b)) b → HoldsRepeated (part 3 40 b) × HoldsText (part 46 118 b)
judged_held b l j = (by (is_mmo (part 46 118 b)) j, holds_text b l j)
  where
    by : (x : Bool) → Judged (pick x layout_mmo layout05) b → HoldsRepeated (part 3 40 b)
    by true i = holds_repeated "05" b l i
    by false i = holds_repeated "05" b l i

-- VALUES TO BYTES
-- six bytes that read as a day are digits, and a date that exists
reads_day : (d : Option ℕ) → is_day (day_in d) ≡ true → d ≡ Some (day_in d)
unfolding is_day
reads_day (Some k) h = refl
reads_day None h = absurd (false≢true h)

day_digits : (z : List ℕ) → is_day (day_in (date_of z)) ≡ true → all digit z ≡ true
day_digits z h =
    let k = day_in (date_of z) in
    ap (all digit) (sym (dates.text_read z k (reads_day (date_of z) h))) ∙ dates.text_digits k

day_exists : (z : List ℕ) → is_day (day_in (date_of z)) ≡ true → is_date (date_of z) ≡ true
day_exists z h = ap is_date (reads_day (date_of z) h)

-- the record of a 05 with such values has the zones and the date of its layout
module _ (e t : List ℕ) (g : HoldsRepeated e) (h : HoldsText t) where
  abbrev w : List ℕ
  w = write_complement e t

  p : Placed e t
  p = placed e t g.size h.size

  front_at : (n m : ℕ) → m + n ≤ 38 → take n (drop (2 + m) w) ≡ take n (drop m e)
  front_at n m i = sym (sub_part n m 38 2 w i) ∙ ap (λ (x : List ℕ). take n (drop m x)) p.repeated

  text_at : (n m : ℕ) → m + n ≤ text_size → take n (drop (45 + m) w) ≡ take n (drop m t)
  text_at n m i = sym (sub_part n m text_size 45 w i) ∙ ap (λ (x : List ℕ). take n (drop m x)) p.text

  front_zoned : run zoned (front "05" (Z.text permitted) (Z.text alnum) []) w ≡ true
  front_zoned =
      both (both (both (both (both (both (both (both
      (ap (all digit) (front_at 5 0 (omega arith)) ∙ g.bank)
      (ap (all permitted) (front_at 4 5 (omega arith)) ∙ g.internal))
      (ap (all digit) (front_at 5 9 (omega arith)) ∙ g.branch))
      (ap (all letter) (front_at 3 14 (omega arith)) ∙ g.currency))
      (ap (all digit) (front_at 1 17 (omega arith)) ∙ g.decimals))
      (ap (all blank) (front_at 1 18 (omega arith)) ∙ g.reserved))
      (ap (all alnum) (front_at 11 19 (omega arith)) ∙ g.account))
      (ap (all alnum) (front_at 2 30 (omega arith)) ∙ g.operation))
      (ap (all digit) (front_at 6 32 (omega arith)) ∙ day_digits _ g.date)

  middle_blank : all blank (part 41 45 w) ≡ true
  unfolding write_complement
  middle_blank = ap (λ (x : List ℕ). all blank (take 5 x)) (drop_at e (replicate 5 32 ++ (t ++ replicate 2 32)) 38 g.size) ∙ are_blanks 5

  last_blank : all blank (part 119 120 w) ≡ true
  unfolding write_complement
  last_blank =
      let r = replicate 5 32 ++ (t ++ replicate 2 32) in
      ap (λ (x : List ℕ). all blank (take 2 x)) (sym (drop-drop 78 38 (e ++ r)) ∙ ap (drop 78) (drop_at e r 38 g.size) ∙ drop_at t (replicate 2 32) text_size h.size) ∙ are_blanks 2

  text_zoned : (x : Bool) → is_mmo t ≡ x → run zoned (pick x layout_mmo layout05) w ≡ true
  text_zoned true m =
      let i = h.mmo m in
      both (both (both (both (both (both front_zoned middle_blank)
      (ap (all letter) (text_at 3 3 (omega arith)) ∙ i.currency))
      (ap (all digit) (text_at 1 6 (omega arith)) ∙ i.decimals))
      (ap (all digit) (text_at 14 7 (omega arith)) ∙ i.amount))
      (ap (all blank) (text_at 52 21 (omega arith)) ∙ i.rest))
      last_blank
  text_zoned false m =
      both (both (both (both front_zoned middle_blank)
      (ap (all alnum) (text_at 3 0 (omega arith)) ∙ h.qualifier))
      (ap (all permitted) (text_at 70 3 (omega arith)) ∙ h.information))
      last_blank

  day : is_date (date_of (part 35 40 w)) ≡ true
  day = ap (λ (x : List ℕ). is_date (date_of x)) (front_at 6 32 (omega arith)) ∙ day_exists _ g.date

  text_dated : (x : Bool) → run dated (pick x layout_mmo layout05) w ≡ true
  text_dated true = day
  text_dated false = day

  pub held_judged : Judged (layout05_of t) w
  held_judged = record { zones = text_zoned (is_mmo t) refl; dates = text_dated (is_mmo t) }
