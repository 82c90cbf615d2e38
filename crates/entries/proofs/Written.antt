-- An entry as the code writes it, and what is read of one.
use mathlib.Core.Path.{◌≡◌, refl, sym, ap, ◌∙◌}
use mathlib.Core.Bool.{Bool, true, false, not, ◌&&◌}
use mathlib.Core.List.{List, [], ◌∷◌, ◌++◌, append_assoc, append-nil}
use Prim.Native.Nat.{ℕ, ◌+◌, ◌*◌, ◌^◌, ◌<◌, ◌≤◌}
use native.Mathlib.Omega.{arith}
use lib.Dec.{eqb, leb, ltb}
use lib.ListN.{length, take, drop, get_or, replicate, length-take, length-drop, length-append}
use lib.Seq.{take_at, drop_at, drop-drop, get_or-drop, get_or-take, length-take-le}
use borrow.Author.Tests.{eq-eqb, ne_eqb, le-leb, lt-leb, ltb-true, ltb-false, leb-true, leb-false}
use Rattle.zones.specs.Class.{digit, in_class}
use Rattle.zones.proofs.Bools.{and_left, and_right}
use Rattle.zones.proofs.Every.{in_range, every_at}
use Rattle.zones.specs.Choice.{pick}
use Rattle.zones.specs.Number.{value_of, digits_of}
use Rattle.zones.specs.Pieces.{flat}
use Rattle.zones.proofs.Decimal.{length_digits, value_digits, digits_all}
use Rattle.zones.proofs.Pasted.{pasted, filled, length_pieces}
use Rattle.dates.specs.Days.{date_of}
use Rattle.layouts.specs.Zone.{part, day_in}
use Rattle.records.specs.July.{record_size, date_in, canon_record}
use Rattle.records.proofs.Canon.{front_kept}
use Rattle.records.proofs.Lawful.{july_lawful}
use Rattle.std.specs.Prelude.{Result, Ok, Err}
use Rattle.entries.specs.declared.Entry.{Entry}
use Rattle.entries.specs.Entries.{entry_size, key_text, dates_text, place_text, entry_text, entry_put, is_used, fields_of, entry_of, most_entries, no_entry, entry_bytes, entry_there, entry_in}

-- a zone of a whole record is as long as its positions say
pub length_zone : (n a : ℕ) (r : List ℕ) → length r ≡ record_size → a + n ≤ record_size → length (take n (drop a r)) ≡ n
length_zone n a r e h = simp (length-take, length-drop) (omega arith)

-- the five zones of a key, the two dates, the place: each where the other ends
module _ (o : List ℕ) (h : length o ≡ record_size) where
  pub key_put : (x : List ℕ) {a b c d e : List ℕ} → length x ≡ 25
      → a ≡ part 3 7 o → b ≡ part 12 16 o → c ≡ part 17 19 o → d ≡ part 20 20 o → e ≡ part 22 32 o
      → pasted 0 (5 ∷ 5 ∷ 3 ∷ 1 ∷ 11 ∷ []) (a ∷ b ∷ c ∷ d ∷ e ∷ []) x ≡ key_text o
  unfolding key_text
  key_put x l p q r s t =
      rw (p, q, r, s, t)
      (filled (5 ∷ 5 ∷ 3 ∷ 1 ∷ 11 ∷ []) (part 3 7 o ∷ part 12 16 o ∷ part 17 19 o ∷ part 20 20 o ∷ part 22 32 o ∷ []) x
      (length_zone 5 2 o h (omega arith), (length_zone 5 11 o h (omega arith), (length_zone 3 16 o h (omega arith), (length_zone 1 19 o h (omega arith), (length_zone 11 21 o h (omega arith), tt)))))
      l)

  pub dates_put : (x c : List ℕ) {a b : List ℕ} → length x ≡ 12 → length c ≡ record_size → a ≡ part 35 40 o → b ≡ part 35 40 c
      → pasted 0 (6 ∷ 6 ∷ []) (a ∷ b ∷ []) x ≡ dates_text o c
  unfolding dates_text
  dates_put x c l k p q =
      rw (p, q)
      (filled (6 ∷ 6 ∷ []) (part 35 40 o ∷ part 35 40 c ∷ []) x (length_zone 6 34 o h (omega arith), (length_zone 6 34 c k (omega arith), tt)) l)

pub place_put : (x : List ℕ) (first n : ℕ) {a b c : List ℕ} → length x ≡ 23 → a ≡ digits_of 6 first → b ≡ digits_of 4 n → c ≡ replicate 13 32
    → pasted 0 (6 ∷ 4 ∷ 13 ∷ []) (a ∷ b ∷ c ∷ []) x ≡ place_text first n
unfolding place_text
place_put x first n l p q r =
    rw (p, q, r) (filled (6 ∷ 4 ∷ 13 ∷ []) (digits_of 6 first ∷ digits_of 4 n ∷ replicate 13 32 ∷ []) x (length_digits 6 first, (length_digits 4 n, (refl, tt))) l)

module _ (first n : ℕ) (o c : List ℕ) (h : length o ≡ record_size) (k : length c ≡ record_size) where
  pub length_key : length (key_text o) ≡ 25
  unfolding key_text
  length_key =
      length_pieces (5 ∷ 5 ∷ 3 ∷ 1 ∷ 11 ∷ []) _
      (length_zone 5 2 o h (omega arith), (length_zone 5 11 o h (omega arith), (length_zone 3 16 o h (omega arith), (length_zone 1 19 o h (omega arith), (length_zone 11 21 o h (omega arith), tt)))))

  length_dates : length (dates_text o c) ≡ 12
  unfolding dates_text
  length_dates = length_pieces (6 ∷ 6 ∷ []) _ (length_zone 6 34 o h (omega arith), (length_zone 6 34 c k (omega arith), tt))

  length_place : length (place_text first n) ≡ 23
  unfolding place_text
  length_place = length_pieces (6 ∷ 4 ∷ 13 ∷ []) _ (length_digits 6 first, (length_digits 4 n, (refl, tt)))

  -- the three groups, each where the other ends
  pub entry_put_lem : (x : List ℕ) {a b d : List ℕ} → length x ≡ entry_size → a ≡ key_text o → b ≡ dates_text o c → d ≡ place_text first n
      → pasted 0 (25 ∷ 12 ∷ 23 ∷ []) (a ∷ b ∷ d ∷ []) x ≡ entry_put first n o c x
  unfolding entry_put entry_text
  entry_put_lem x l p q r =
      rw (p, q, r)
      (filled (25 ∷ 12 ∷ 23 ∷ []) (key_text o ∷ dates_text o c ∷ place_text first n ∷ []) x (length_key, (length_dates, (length_place, tt))) l
      ∙ sym (rw (eq-eqb (length x) entry_size l, eq-eqb (length o) record_size h, eq-eqb (length c) record_size k)))

  pub length_entry : length (entry_text first n o c) ≡ entry_size
  unfolding entry_text
  length_entry = length_pieces (25 ∷ 12 ∷ 23 ∷ []) (key_text o ∷ dates_text o c ∷ place_text first n ∷ []) (length_key, (length_dates, (length_place, tt)))

  -- what it is made of, its place apart
  entry_split : entry_text first n o c ≡ (key_text o ++ dates_text o c) ++ place_text first n
  unfolding entry_text flat
  entry_split = rw (append-nil (place_text first n)) (sym (append_assoc (key_text o) (dates_text o c) (place_text first n)))

  place_from_lem : drop 37 (entry_text first n o c) ≡ place_text first n
  place_from_lem =
      ap (drop 37) entry_split
      ∙ drop_at (key_text o ++ dates_text o c) (place_text first n) 37 (omega (arith, length-append (key_text o) (dates_text o c), length_key, length_dates))

  first_digits : part 38 43 (entry_text first n o c) ≡ digits_of 6 first
  unfolding place_text flat
  first_digits = ap (take 6) place_from_lem ∙ take_at (digits_of 6 first) _ 6 (length_digits 6 first)

  count_digits : part 44 47 (entry_text first n o c) ≡ digits_of 4 n
  unfolding place_text flat
  count_digits =
      ap (take 4) (sym (drop-drop 6 37 (entry_text first n o c)) ∙ ap (drop 6) place_from_lem ∙ drop_at (digits_of 6 first) _ 6 (length_digits 6 first))
      ∙ take_at (digits_of 4 n) _ 4 (length_digits 4 n)

  -- an entry that is written is used: a digit begins its number of records
  written_used : is_used (entry_text first n o c) ≡ true
  written_used =
      let x = entry_text first n o c in
      let q : get_or (part 44 47 x) 0 0 ≡ get_or x 43 0 = get_or-take 4 (drop 43 x) 0 0 (omega arith) ∙ get_or-drop 43 x 0 0 in
      let d = every_at (in_class digit) (digits_of 4 n) 0 (omega (arith, length_digits 4 n)) (digits_all 4 n) in
      let r = in_range (get_or (digits_of 4 n) 0 0) d in
      let z : get_or x 43 0 ≡ get_or (digits_of 4 n) 0 0 = sym q ∙ ap (λ (l : List ℕ). get_or l 0 0) count_digits in
      ap not (ne_eqb (get_or x 43 0) 32 (λ e. omega (arith, r.0, z, e)))

  -- what is read of an entry is what was written
  pub entry_read : first < 10 ^ 6 → n < 10 ^ 4 → fields_of (entry_text first n o c) ≡ record { used = true; first = first; records = n }
  unfolding fields_of
  entry_read f m =
      rw (eq-eqb (length (entry_text first n o c)) entry_size length_entry, written_used, first_digits, count_digits, value_digits 6 first f, value_digits 4 n m)

-- a blank entry is not used
pub blank_unused : (x : List ℕ) → ((i : ℕ) → i < entry_size → get_or x i 0 ≡ 32) → (fields_of x).used ≡ false
unfolding fields_of
blank_unused x b = by (eqb (length x) entry_size)
  where
    by : (t : Bool) → (pick t (record { used = is_used x; first = value_of (part 38 43 x); records = value_of (part 44 47 x) }) no_entry).used ≡ false
    by true = ap not (eq-eqb (get_or x 43 0) 32 (b 43 (omega arith)))
    by false = refl

-- KEPT: an entry is the same of records as the writer writes them; what it takes of them stands before their amounts
key_kept : (o : List ℕ) → length o ≡ record_size → key_text (canon_record o) ≡ key_text o
unfolding key_text
key_kept o h =
    let same : (a z : ℕ) → 1 ≤ a → a ≤ z → z ≤ 90 → part a z (canon_record o) ≡ part a z o = front_kept o h in
    rw (
      same 3 7 (omega arith) (omega arith) (omega arith),
      same 12 16 (omega arith) (omega arith) (omega arith),
      same 17 19 (omega arith) (omega arith) (omega arith),
      same 20 20 (omega arith) (omega arith) (omega arith),
      same 22 32 (omega arith) (omega arith) (omega arith),
    )

date_kept : (o : List ℕ) → length o ≡ record_size → part 35 40 (canon_record o) ≡ part 35 40 o
date_kept o h = front_kept o h 35 40 (omega arith) (omega arith) (omega arith)

pub day_kept : (o : List ℕ) → length o ≡ record_size → date_in (canon_record o) ≡ date_in o
day_kept o h = ap (λ d. day_in (date_of d)) (date_kept o h)

pub entry_kept : (first n : ℕ) (o c x : List ℕ) → length o ≡ record_size → length c ≡ record_size
    → entry_put first n (canon_record o) (canon_record c) x ≡ entry_put first n o c x
unfolding entry_put entry_text dates_text
entry_kept first n o c x h k =
    rw ((july_lawful.alike o h).sized, (july_lawful.alike c k).sized, key_kept o h, date_kept o h, date_kept c k)

-- at the code's returns
module _ (x : List ℕ) (l : length x ≡ entry_size) where
  module _ {a b : ℕ} (p : a ≡ value_of (part 38 43 x)) (q : b ≡ value_of (part 44 47 x)) where
    pub blank_read : get_or x 43 0 ≡ 32 → ◌≡◌ {A = Result Entry Entry} (Err (record { first = a; records = b })) (entry_of (fields_of x))
    unfolding fields_of
    blank_read h = rw (eq-eqb (length x) entry_size l, h, p, q)

    pub fields_read : (get_or x 43 0 ≡ 32 → ⊥) → ◌≡◌ {A = Result Entry Entry} (Ok (record { first = a; records = b })) (entry_of (fields_of x))
    unfolding fields_of
    fields_read h = rw (eq-eqb (length x) entry_size l, ne_eqb (get_or x 43 0) 32 h, p, q)

module _ (j : List ℕ) (e : ℕ) where
  pub none_there : entry_there j e ≡ false → ◌≡◌ {A = Result Entry Entry} (Err (record { first = 0; records = 0 })) (entry_of (entry_in j e))
  unfolding entry_in fields_of
  none_there = by (ltb e most_entries) (leb (entry_size * e + entry_size) (length j)) refl refl
    where
      by : (t u : Bool) → ltb e most_entries ≡ t → leb (entry_size * e + entry_size) (length j) ≡ u → (t && u) ≡ false → ◌≡◌ {A = Result Entry Entry} (Err (record { first = 0; records = 0 })) (entry_of (entry_in j e))
      by false u p q h = sym (rw (le-leb most_entries e (ltb-false e most_entries p)))
      by true false p q h =
          let s : length j < entry_size * e + entry_size = leb-false (entry_size * e + entry_size) (length j) q in
          sym
          (rw (
            lt-leb most_entries e (ltb-true e most_entries p),
            ne_eqb (length (entry_bytes j e)) entry_size (λ g. omega (arith, g, length-take entry_size (drop (entry_size * e) j), length-drop (entry_size * e) j)),
          ))
      by true true p q h = cc

  module _ (h : entry_there j e ≡ true) where
    pub length_there : length (entry_bytes j e) ≡ entry_size
    length_there =
        let s = leb-true (entry_size * e + entry_size) (length j) (and_right (ltb e most_entries) _ h) in
        length-take-le entry_size (drop (entry_size * e) j) (omega (arith, length-drop (entry_size * e) j))

    pub read_there : {r : Result Entry Entry} → r ≡ entry_of (fields_of (entry_bytes j e)) → r ≡ entry_of (entry_in j e)
    unfolding entry_in
    read_there p = p ∙ sym (rw (lt-leb most_entries e (ltb-true e most_entries (and_left (ltb e most_entries) _ h))))

-- nothing is written where a length is another
module _ (first n : ℕ) (o c x : List ℕ) where
  pub other_room : (length x ≡ entry_size → ⊥) → x ≡ entry_put first n o c x
  unfolding entry_put
  other_room h = sym (rw (ne_eqb (length x) entry_size h))

  pub other_opening : length x ≡ entry_size → (length o ≡ record_size → ⊥) → x ≡ entry_put first n o c x
  unfolding entry_put
  other_opening l h = sym (rw (eq-eqb (length x) entry_size l, ne_eqb (length o) record_size h))

  pub other_closing : length x ≡ entry_size → length o ≡ record_size → (length c ≡ record_size → ⊥) → x ≡ entry_put first n o c x
  unfolding entry_put
  other_closing l k h = sym (rw (eq-eqb (length x) entry_size l, eq-eqb (length o) record_size k, ne_eqb (length c) record_size h))
