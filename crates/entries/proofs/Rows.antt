-- The row of an entry, as the code writes it.
use mathlib.Core.Path.{◌≡◌, sym, ap, ◌∙◌}
use mathlib.Core.Bool.{true, false}
use mathlib.Core.List.{List, [], ◌∷◌, ◌++◌, append_assoc, append-nil}
use Prim.Native.Nat.{ℕ}
use native.Mathlib.Omega.{arith}
use lib.ListN.{length, take, drop, length-take}
use lib.Seq.{take_at, drop_at, drop-drop}
use borrow.Author.Tests.{eq-eqb, ne_eqb}
use Rattle.zones.specs.Number.{digits_of}
use Rattle.zones.specs.Pieces.{flat}
use Rattle.zones.proofs.Decimal.{length_digits}
use Rattle.zones.proofs.Pasted.{pasted, filled}
use Rattle.dates.specs.Days.{date_of}
use Rattle.layouts.specs.Zone.{part, day_in}
use Rattle.records.specs.July.{record_size, date_in}
use Rattle.entries.specs.Entries.{entry_size, entry_bytes, entry_there, row_size, key_text, dates_text, place_text, entry_text, row_of, row_put}
use Rattle.entries.proofs.Written.{length_zone, length_key}

-- key and dates, each where the other ends
pub row_put_lem : (x dst : List ℕ) {a b c : List ℕ} → length x ≡ entry_size → length dst ≡ row_size
    → a ≡ part 1 25 x → b ≡ digits_of 8 (day_in (date_of (part 26 31 x))) → c ≡ digits_of 8 (day_in (date_of (part 32 37 x)))
    → pasted 0 (25 ∷ 8 ∷ 8 ∷ []) (a ∷ b ∷ c ∷ []) dst ≡ row_of x
unfolding row_of
row_put_lem x dst h l p q r =
    rw (p, q, r)
    (filled (25 ∷ 8 ∷ 8 ∷ []) (part 1 25 x ∷ digits_of 8 (day_in (date_of (part 26 31 x))) ∷ digits_of 8 (day_in (date_of (part 32 37 x))) ∷ []) dst
    (length-take 25 x ∙ omega arith, (length_digits 8 _, (length_digits 8 _, tt)))
    l)

module _ (j : List ℕ) (e : ℕ) (dst : List ℕ) where
  pub other_room : (length dst ≡ row_size → ⊥) → dst ≡ row_put j e dst
  unfolding row_put
  other_room h = sym (rw (ne_eqb (length dst) row_size h))

  module _ (l : length dst ≡ row_size) where
    pub not_there : entry_there j e ≡ false → dst ≡ row_put j e dst
    unfolding row_put
    not_there h = sym (rw (eq-eqb (length dst) row_size l, h))

    pub written_there : {r : List ℕ} → entry_there j e ≡ true → r ≡ row_of (entry_bytes j e) → r ≡ row_put j e dst
    unfolding row_put
    written_there h p = p ∙ sym (rw (eq-eqb (length dst) row_size l, h))

-- the row of an entry that was written: its key and its dates as in the 01 and the 07
module _ (first n : ℕ) (o c : List ℕ) (h : length o ≡ record_size) (k : length c ≡ record_size) where
  abbrev x : List ℕ
  x = entry_text first n o c

  key_part : part 1 25 x ≡ key_text o
  unfolding entry_text flat
  key_part = take_at (key_text o) _ 25 (length_key first n o c h k)

  -- behind the key
  dates_from : drop 25 x ≡ part 35 40 o ++ (part 35 40 c ++ flat (place_text first n ∷ []))
  unfolding entry_text dates_text flat
  dates_from =
      drop_at (key_text o) _ 25 (length_key first n o c h k)
      ∙ rw (append-nil (part 35 40 c)) (append_assoc (part 35 40 o) (part 35 40 c) (place_text first n ++ []))

  old_part : part 26 31 x ≡ part 35 40 o
  old_part = ap (take 6) dates_from ∙ take_at (part 35 40 o) _ 6 (length_zone 6 34 o h (omega arith))

  new_part : part 32 37 x ≡ part 35 40 c
  new_part =
      ap (take 6) (sym (drop-drop 6 25 x) ∙ ap (drop 6) dates_from ∙ drop_at (part 35 40 o) _ 6 (length_zone 6 34 o h (omega arith)))
      ∙ take_at (part 35 40 c) _ 6 (length_zone 6 34 c k (omega arith))

  pub row_of_entry : row_of (entry_text first n o c) ≡ flat (key_text o ∷ digits_of 8 (date_in o) ∷ digits_of 8 (date_in c) ∷ [])
  unfolding row_of
  row_of_entry = rw (key_part, old_part, new_part)
