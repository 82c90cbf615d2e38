-- A row more, as the code comes to it.
use mathlib.Core.Path.{◌≡◌, refl, sym, ap, ◌∙◌}
use Rattle.std.specs.Prelude.{Some, None}
use mathlib.Core.Bool.{Bool, true, false, ◌&&◌}
use mathlib.Core.List.{List}
use Prim.Native.Nat.{ℕ, ◌+◌, ◌-◌, ◌*◌, ◌/◌, ◌≤◌}
use native.Mathlib.Nat.{add-sub_cancel_left}
use native.Mathlib.Omega.{arith}
use lib.Dec.{leb}
use lib.ListN.{length, take, drop, length-drop}
use lib.IntN.{nat_abs}
use lib.Seq.{length-take-le}
use borrow.Author.Tests.{le-leb, lt-leb, leb-true, leb-false}
use Rattle.zones.proofs.Bools.{and_left, and_right}
use Rattle.amounts.specs.Amounts.{most_amount}
use Rattle.framing.specs.Files.{chunks}
use Rattle.records.specs.July.{text_size, most_in_statement}
use Rattle.fields.specs.declared.Movement.{Movement}
use Rattle.contents.specs.declared.Head.{Head}
use Rattle.writing.specs.Written.{movement_holds}
use Rattle.writer.specs.declared.Tally.{Tally}
use Rattle.writer.specs.Test.{texts_hold, grown, booked_within, most_balance, reckoned, room_for, tally_of}
use Rattle.writer.proofs.Back.{chunks_take}
use Rattle.writer.proofs.Rows.{row_amount}

-- room after a place is room up to the end
pub room_left : (from size len : ℕ) → from ≤ len → leb size (len - from) ≡ leb (from + size) len
room_left from size len h = by (leb size (len - from)) refl
  where
    by : (t : Bool) → leb size (len - from) ≡ t → leb size (len - from) ≡ leb (from + size) len
    by true e = e ∙ sym (le-leb (from + size) len (omega (arith, leb-true size (len - from) e)))
    by false e = e ∙ sym (lt-leb (from + size) len (omega (arith, leb-false size (len - from) e)))

module _ (h : Head) (s : Tally) (m : Movement) (cs : List ℕ) {a b c : Bool} (p : a ≡ movement_holds h.key m) (q : b ≡ booked_within h m) (r : c ≡ reckoned s m (length cs)) where
  abbrev test : Bool
  test = a && (b && c)

  is_test : (movement_holds h.key m && (booked_within h m && reckoned s m (length cs))) ≡ test
  is_test = rw (← p, ← q, ← r)

  module _ (e : test ≡ true) where
    ok : reckoned s m (length cs) ≡ true
    ok = sym r ∙ and_right b _ (and_right a _ e)

    pub small : nat_abs s.balance ≤ most_balance
    small = leb-true (nat_abs s.balance) most_balance (and_left (leb (nat_abs s.balance) most_balance) _ (and_right (leb s.records most_in_statement && leb m.complements most_in_statement) _ ok))

    pub row_small : nat_abs m.amount ≤ most_amount
    row_small = row_amount h m (sym p ∙ and_left a _ e)

    pub inside : s.from ≤ length cs
    inside = leb-true s.from (length cs) (and_right (leb (nat_abs s.balance) most_balance) _ (and_right (leb s.records most_in_statement && leb m.complements most_in_statement) _ ok))

    abbrev room : Bool
    room = leb (s.records + 1 + m.complements) most_in_statement && leb (m.complements * text_size) (length cs - s.from)

    is_room : room_for s m (length cs) ≡ room
    is_room = rw (room_left s.from (m.complements * text_size) (length cs) inside)

    module _ (f : room ≡ true) where
      pub texts_inside : s.from + m.complements * text_size ≤ length cs
      texts_inside =
          let i = inside in
          omega (arith, leb-true (m.complements * text_size) (length cs - s.from) (and_right (leb (s.records + 1 + m.complements) most_in_statement) _ f))

      -- the texts as the code cuts them out
      abbrev cut : List ℕ
      cut = take (s.from + m.complements * text_size - s.from) (drop s.from cs)

      texts_cut : chunks text_size (length cut / text_size) cut ≡ chunks text_size m.complements (drop s.from cs)
      texts_cut =
          let n = m.complements * text_size in
          let h : n ≤ length (drop s.from cs) = omega (arith, length-drop s.from cs, texts_inside) in
          let l : length (take n (drop s.from cs)) / text_size ≡ m.complements = omega (arith, length-take-le n (drop s.from cs) h) in
          rw (add-sub_cancel_left s.from n, l) (chunks_take text_size m.complements (drop s.from cs) h)

      module _ {t : Bool} (g : t ≡ texts_hold true false (chunks text_size (length cut / text_size) cut)) where
        is_fine : texts_hold true false (chunks text_size m.complements (drop s.from cs)) ≡ t
        is_fine = sym (g ∙ ap (texts_hold true false) texts_cut)

        pub misfit : t ≡ false → None ≡ tally_of h s m cs
        unfolding tally_of
        misfit l = sym (rw (is_test, e, is_room, f, is_fine, l))

        pub fitting : t ≡ true → Some (grown s m) ≡ tally_of h s m cs
        unfolding tally_of
        fitting l = sym (rw (is_test, e, is_room, f, is_fine, l))
