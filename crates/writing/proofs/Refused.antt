-- Written, or refused and nothing changed: at the code's returns.
use mathlib.Core.Path.{◌≡◌, sym, ◌∙◌}
use mathlib.Core.Bool.{Bool, true, false, not, ◌&&◌, and-false}
use mathlib.Core.List.{List}
use Prim.Native.Nat.{ℕ}
use lib.Dec.{eqb}
use lib.ListN.{length}
use lib.IntN.{ℤ}
use borrow.Author.Tests.{eqb-true, eq-eqb, ne_eqb, not-true, not-false}
use Rattle.zones.specs.Choice.{pick}
use Rattle.zones.specs.Class.{digit, blank, permitted, alnum, flag}
use Rattle.zones.proofs.Bools.{and_left, and_right}
use Rattle.dates.specs.Days.{is_day}
use Rattle.amounts.specs.Amounts.{has_amount}
use Rattle.layouts.specs.Zone.{text, either, byte, number, holds}
use Rattle.grammar.specs.declared.Key.{Key}
use Rattle.records.specs.July.{record_size, text_size}
use Rattle.fields.specs.declared.Movement.{Movement}
use Rattle.writing.specs.Written.{key_holds, balance_holds, posting_holds, movement_holds, text_holds}

module _ (h : Bool) (t x : List ℕ) where
  pub other_room : (length x ≡ record_size → ⊥) → x ≡ pick (eqb (length x) record_size && h) t x
  other_room n = sym (rw (ne_eqb (length x) record_size n))

  pub not_held : {r : Bool} → r ≡ h → not r ≡ true → x ≡ pick (eqb (length x) record_size && h) t x
  not_held {r} e n = sym (rw (← e, not-true r n, and-false))

  pub held : {r : Bool} {y : List ℕ} → length x ≡ record_size → r ≡ h → not r ≡ false → y ≡ t → y ≡ pick (eqb (length x) record_size && h) t x
  held {r} l e n q = q ∙ sym (rw (← e, not-false r n, eq-eqb (length x) record_size l))

-- what the writers ask
pub day_held : (k : Key) (d : ℕ) (a : ℤ) {r : Bool} → r ≡ balance_holds k d a → not r ≡ false → is_day d ≡ true
day_held k d a {r} e n = and_left (is_day d) _ (and_right (key_holds k) _ (sym e ∙ not-false r n))

pub amount_held : (k : Key) (d : ℕ) (a : ℤ) {r : Bool} → r ≡ balance_holds k d a → not r ≡ false → has_amount a ≡ true
amount_held k d a {r} e n = and_right (is_day d) _ (and_right (key_holds k) _ (sym e ∙ not-false r n))

-- the dates and the amount of a 04
pub record Dated (m : Movement) : Type 0 where
  pub booked : is_day m.booked ≡ true
  pub value : is_day m.value ≡ true
  pub amount : has_amount m.amount ≡ true

pub dated : (k : Key) (m : Movement) → movement_holds k m ≡ true → Dated m
unfolding posting_holds
dated k m h =
    let a = and_right (holds 2 (text alnum) m.code) _ (and_right (holds 4 (text permitted) m.internal) _ (and_right (key_holds k) _ h)) in
    let b = and_right (holds 2 (either digit blank) m.reject) _ (and_right (is_day m.booked) _ a) in
    let c = and_right (holds 7 number m.entry) _ (and_right (holds 31 (text permitted) m.label) _ (and_right (is_day m.value) _ b)) in
    let d = and_right (holds 1 (byte flag) m.unavailable) _ (and_right (holds 1 (byte flag) m.exempt) _ c) in
    record { booked = and_left (is_day m.booked) _ a; value = and_left (is_day m.value) _ b; amount = and_left (has_amount m.amount) _ d }

pub length_held : (t : List ℕ) → text_holds t ≡ true → length t ≡ text_size
unfolding text_holds
length_held t h = eqb-true (length t) text_size (and_left (eqb (length t) text_size) _ h)
