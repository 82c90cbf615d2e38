-- Each test of the judgement, in the terms of the code, is a rule on the piece and the state.
use mathlib.Core.Path.{◌≡◌, refl, ap, ◌∙◌}
use mathlib.Core.Bool.{Bool, true, false, not}
use mathlib.Core.List.{List}
use Prim.Native.Nat.{ℕ, ◌+◌, ◌-◌, ◌^◌, ◌<◌, ◌≤◌}
use native.Mathlib.Nat.{add-sub_cancel_left}
use native.Mathlib.Omega.{arith}
use lib.Dec.{eqb}
use Rattle.std.specs.Prelude.{Some, None, unwrap_or}
use lib.ListN.{length, take, drop, length-drop}
use lib.Seq.{take_all, length-take-le}
use lib.IntN.{ℤ, nat_abs}
use mir.Syntax.{w64}
use mir.Val.{to_z, of_z}
use borrow.Author.Tests.{eq-eqb}
use Rattle.zones.specs.Choice.{pick}
use Rattle.zones.specs.Class.{permitted, all}
use Rattle.zones.specs.Copy.{same_bytes}
use Rattle.amounts.specs.Amounts.{most_amount}
use Rattle.amounts.proofs.Whole.{back}
use Rattle.layouts.specs.Zone.{part}
use Rattle.framing.specs.declared.Form.{Form}
use Rattle.framing.specs.Files.{end_of, wrong_end}
use Rattle.grammar.specs.Record.{same_key, same_amount}
use Rattle.grammar.specs.Rules.{out_of_place, second_mmo, misdated, unsummed}
use Rattle.records.specs.July.{record_size, july2004, is_code, unknown_code, is_mmo, misfit, undated, key_in, date_in, amount_in, decode_record}
use Rattle.records.specs.Looks.{kind_of, code_of, no_record, look_of}
use Rattle.records.specs.Tests.{same_key_in, same_front_in, movement_of, misplaced_by, second_mmo_by, misdated_by, unsummed_by}
use Rattle.records.specs.declared.Kind.{Kind}
use Rattle.records.specs.declared.Kind.TheVariants.{Closing}
use Rattle.records.specs.declared.Look.{Look}
use Rattle.statements.specs.declared.Progress.{Progress}
use Rattle.statements.specs.Progress.{record_at, mode_of, flags_of}
use Rattle.statements.proofs.Taken.{amount_small}
use Rattle.statements.proofs.Modes.{stands, decoded, place_is, second_is, dates_is, sum_is}

-- what a look says of its record
pub record Told (b : List ℕ) (k : Look) : Type 0 where
  pub kind : k.kind ≡ kind_of b
  pub misfits : k.misfit ≡ misfit b
  pub undates : k.undated ≡ undated b
  pub day : k.day ≡ date_in b
  pub amount : k.amount ≡ amount_in b
  pub mmo : k.mmo ≡ is_mmo (part 46 118 b)
  pub permits : k.permitted ≡ all permitted b

pub told : (b : List ℕ) (k : Look) → length b ≡ record_size → k ≡ look_of b → Told b k
unfolding look_of
told b k l e =
    let s : k ≡ record { kind = kind_of b; misfit = misfit b; undated = undated b; day = date_in b; amount = amount_in b; mmo = is_mmo (part 46 118 b); permitted = all permitted b } = e ∙ rw (eq-eqb (length b) record_size l) in
    record {
      kind = ap (λ x. x.kind) s;
      misfits = ap (λ x. x.misfit) s;
      undates = ap (λ x. x.undated) s;
      day = ap (λ x. x.day) s;
      amount = ap (λ x. x.amount) s;
      mmo = ap (λ x. x.mmo) s;
      permits = ap (λ x. x.permitted) s;
    }

-- the amount is small
pub told_small : {b : List ℕ} {k : Look} → Told b k → nat_abs k.amount ≤ most_amount
told_small {b} t = rw t.amount (amount_small (part 91 104 b))

pub look_small : (b : List ℕ) {k : Look} → k ≡ look_of b → nat_abs k.amount ≤ most_amount
unfolding look_of
look_small b {k} e = rw e (by (eqb (length b) record_size))
  where
    by : (t : Bool) → nat_abs (pick t (record { kind = kind_of b; misfit = misfit b; undated = undated b; day = date_in b; amount = amount_in b; mmo = is_mmo (part 46 118 b); permitted = all permitted b }) no_record).amount ≤ most_amount
    by true = amount_small (part 91 104 b)
    by false = omega arith

-- balances are compared as the whole numbers that they are
pub balances_back : (x y : ℤ) → nat_abs x < 2 ^ 63 → nat_abs y < 2 ^ 63 → same_amount (to_z w64 (of_z w64 x)) (to_z w64 (of_z w64 y)) ≡ same_amount x y
balances_back x y g h = rw (back x g, back y h)

-- the line end is what stands after a record
pub after_record : (f : Form) (p : List ℕ) → not (same_bytes (take (length p - record_size) (drop record_size p)) (end_of f)) ≡ wrong_end record_size f p
after_record f p = rw (take_all (length p - record_size) (drop record_size p) (rw length-drop (omega arith)))

-- a record has a kind exactly if its code is known, and then it is what its code says
pub kind_none : (b : List ℕ) → kind_of b ≡ None → unknown_code b ≡ true
unfolding kind_of unknown_code
kind_none b = by (is_code "01" b) (is_code "04" b) (is_code "05" b) (is_code "07" b) refl refl refl refl
  where
    by : (x y z w : Bool) → is_code "01" b ≡ x → is_code "04" b ≡ y → is_code "05" b ≡ z → is_code "07" b ≡ w → kind_of b ≡ None → unknown_code b ≡ true
    by true y z w p q r s h = absurd (let e = rw p at h in cc)
    by false true z w p q r s h = absurd (let e = rw (p, q) at h in cc)
    by false false true w p q r s h = absurd (let e = rw (p, q, r) at h in cc)
    by false false false true p q r s h = absurd (let e = rw (p, q, r, s) at h in cc)
    by false false false false p q r s h = rw (p, q, r, s)

pub kind_some : (b : List ℕ) {k : Kind} → kind_of b ≡ Some k → unknown_code b ≡ false
unfolding kind_of unknown_code
kind_some b {k} = by (is_code "01" b) (is_code "04" b) (is_code "05" b) (is_code "07" b) refl refl refl refl
  where
    by : (x y z w : Bool) → is_code "01" b ≡ x → is_code "04" b ≡ y → is_code "05" b ≡ z → is_code "07" b ≡ w → kind_of b ≡ Some k → unknown_code b ≡ false
    by true y z w p q r s h = rw p
    by false true z w p q r s h = rw (p, q)
    by false false true w p q r s h = rw (p, q, r)
    by false false false true p q r s h = rw (p, q, r, s)
    by false false false false p q r s h = absurd (let e = rw (p, q, r, s) at h in cc)

pub kind_stands : (b : List ℕ) {k c : Kind} → kind_of b ≡ Some k → k ≡ c → decode_record b ≡ stands c b
kind_stands b h e = decoded b ∙ ap (λ x. stands x b) (ap (λ x. unwrap_or x Closing) h ∙ e)

module _ (file b : List ℕ) (p : Progress) (k : Look) (t : Told b k) (c : Kind) (h : kind_of b ≡ Some c) where
  module _ {m n : ℕ} (x : m ≡ movement_of p.movement) (y : n ≡ code_of c) where
    pub misplaced_is : misplaced_by p.size m n ≡ out_of_place (mode_of (flags_of file p)) (decode_record b)
    misplaced_is = rw (x, y, kind_stands b h refl) (place_is (flags_of file p) b c)

    pub second_mmo_is : second_mmo_by p.size m n k.mmo ≡ second_mmo july2004 (mode_of (flags_of file p)) (decode_record b)
    second_mmo_is = rw (x, y, kind_stands b h refl, t.mmo) (second_is (flags_of file p) b c)

    pub misdated_is : misdated_by p.size n k.day p.old p.latest ≡ misdated (mode_of (flags_of file p)) (decode_record b)
    misdated_is = rw (y, kind_stands b h refl, t.day) (dates_is (flags_of file p) b c)

    pub unsummed_is : unsummed_by p.size n (same_amount p.totals.balance k.amount) ≡ unsummed (mode_of (flags_of file p)) (decode_record b)
    unsummed_is = rw (y, kind_stands b h refl, t.amount) (sum_is (flags_of file p) b c)

-- a record compared with the one at a place of the file, as the code cuts it
module _ (file b : List ℕ) (at : ℕ) (h : at + record_size ≤ length file) (m : length b ≡ record_size) where
  there : length (record_at file at) ≡ record_size
  there = length-take-le record_size (drop at file) (rw length-drop (omega arith))

  pub keys_at : same_key_in (take (at + record_size - at) (drop at file)) b ≡ same_key (key_in (record_at file at)) (key_in b)
  unfolding same_key_in
  keys_at = rw (add-sub_cancel_left at record_size, eq-eqb (length (record_at file at)) record_size there, eq-eqb (length b) record_size m)

  pub fronts_at : same_front_in (take (at + record_size - at) (drop at file)) b ≡ same_bytes (part 3 40 (record_at file at)) (part 3 40 b)
  unfolding same_front_in
  fronts_at = rw (add-sub_cancel_left at record_size, eq-eqb (length (record_at file at)) record_size there, eq-eqb (length b) record_size m)
