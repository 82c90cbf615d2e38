-- The code's tests are the paper's: what a record can hold, zone by zone in its layout.
use mathlib.Core.Path.{◌≡◌, refl, sym, ap, ◌∙◌}
use mathlib.Core.Bool.{Bool, true, false, ◌&&◌, and-false, false≢true}
use mathlib.Core.List.{List}
use Prim.Native.Nat.{ℕ}
use lib.Dec.{eqb}
use lib.ListN.{length}
use lib.IntN.{ℤ}
use borrow.Author.Tests.{eqb-true, eq-eqb}
use Rattle.zones.specs.Choice.{pick}
use Rattle.zones.specs.Class.{digit, letter, alnum, blank, permitted, flag, all}
use Rattle.zones.proofs.Bools.{and_left, and_right, both, and_assoc, and_one}
use Rattle.dates.specs.Days.{is_day}
use Rattle.amounts.specs.Amounts.{has_amount}
use Rattle.layouts.specs.Zone.{part, text, either, byte, number, holds, encode, holds_all}
use Rattle.grammar.specs.declared.Key.{Key}
use Rattle.grammar.specs.Record.{complement}
use Rattle.records.specs.Layouts.{layout01, layout04, layout07}
use Rattle.records.specs.July.{text_size, is_mmo, balance_values, movement_values, write_movement, repeats, HoldsText, Holds}
use Rattle.records.proofs.Covered.{covers04}
use Rattle.records.proofs.Valued.{written_length, written_judged}
use Rattle.records.proofs.Held.{mmo_text, holds_repeated}
use Rattle.fields.specs.declared.Movement.{Movement}
use Rattle.writing.specs.Written.{posting_of, key_holds, balance_holds, posting_holds, movement_holds, mmo_holds, plain_holds, text_holds}

-- key first, or in the order of the record
regroup : (b r c d a x y : Bool) → ((b && (r && (c && (d && a)))) && (x && y)) ≡ (b && (r && (c && (d && (a && (x && (y && true)))))))
regroup b r c d a x y = simp (and_assoc, and_one)

interleave : (b r c d a i x : Bool) → ((b && (r && (c && (d && a)))) && (i && x)) ≡ (b && (i && (r && (c && (d && (a && x))))))
interleave false r c d a i x = refl
interleave true r c d a true x = simp and_assoc
interleave true r c d a false x = and-false (r && (c && (d && a)))

key_first : (k : Key) (x y : Bool) → (key_holds k && (x && y))
    ≡ (holds 5 (text digit) k.bank
    && (holds 5 (text digit) k.branch
    && (holds 3 (text letter) k.currency && (holds 1 (byte digit) k.decimals && (holds 11 (text alnum) k.account && (x && (y && true)))))))
unfolding key_holds
key_first k x y =
    regroup (holds 5 (text digit) k.bank) (holds 5 (text digit) k.branch) (holds 3 (text letter) k.currency) (holds 1 (byte digit) k.decimals) (holds 11 (text alnum) k.account) x y

pub opening_holds : (k : Key) (d : ℕ) (a : ℤ) → balance_holds k d a ≡ holds_all layout01 (balance_values "01" k d a)
opening_holds k d a = key_first k (is_day d) (has_amount a)

pub closing_holds : (k : Key) (d : ℕ) (a : ℤ) → balance_holds k d a ≡ holds_all layout07 (balance_values "07" k d a)
closing_holds k d a = key_first k (is_day d) (has_amount a)

-- a 04 from its operation on, its reference apart
abbrev onward : Movement → Bool → Bool
onward m x =
    holds 2 (text alnum) m.code
    && (is_day m.booked
    && (holds 2 (either digit blank) m.reject
    && (is_day m.value
    && (holds 31 (text permitted) m.label
    && (holds 7 number m.entry && (holds 1 (byte flag) m.exempt && (holds 1 (byte flag) m.unavailable && (has_amount m.amount && x))))))))

pub movement_holds_lem : (k : Key) (m : Movement) → movement_holds k m ≡ holds_all layout04 (movement_values k (posting_of m))
unfolding key_holds posting_holds
movement_holds_lem k m =
    ap (λ (x : Bool). key_holds k && (holds 4 (text permitted) m.internal && onward m x)) (sym (and_one (holds 16 (text permitted) m.reference)))
    ∙ interleave (holds 5 (text digit) k.bank) (holds 5 (text digit) k.branch) (holds 3 (text letter) k.currency) (holds 1 (byte digit) k.decimals) (holds 11 (text alnum) k.account)
    (holds 4 (text permitted) m.internal) (onward m (holds 16 (text permitted) m.reference && true))

-- the text of a 05 that can be written
pub text_held : (e t : List ℕ) → Holds (complement e t) → text_holds t ≡ true
unfolding text_holds mmo_holds plain_holds
text_held e t h = both (eq-eqb (length t) text_size h.1.size) (by (is_mmo t) refl)
  where
    by : (x : Bool) → is_mmo t ≡ x → pick x (mmo_holds t) (plain_holds t) ≡ true
    by true m = let i = h.1.mmo m in both i.currency (both i.decimals (both i.amount i.rest))
    by false m = both h.1.qualifier h.1.information

held_text : (t : List ℕ) → text_holds t ≡ true → HoldsText t
unfolding text_holds mmo_holds plain_holds
held_text t h = by (is_mmo t) refl (and_right (eqb (length t) text_size) _ h)
  where
    size : length t ≡ text_size
    size = eqb-true (length t) text_size (and_left (eqb (length t) text_size) _ h)

    by : (x : Bool) → is_mmo t ≡ x → pick x (mmo_holds t) (plain_holds t) ≡ true → HoldsText t
    by true m i =
        let g = and_right (all letter (part 4 6 t)) _ i in
        let d = and_right (all digit (part 7 7 t)) _ g in
        mmo_text t size m
        (record {
          currency = and_left (all letter (part 4 6 t)) _ i;
          decimals = and_left (all digit (part 7 7 t)) _ g;
          amount = and_left (all digit (part 8 21 t)) _ d;
          rest = and_right (all digit (part 8 21 t)) _ d;
        })
    by false m i =
        record {
          size = size;
          qualifier = and_left (all alnum (part 1 3 t)) _ i;
          information = and_right (all alnum (part 1 3 t)) _ i;
          mmo = λ n. absurd (false≢true (sym m ∙ n));
        }

-- a 05 that repeats a 04 which can be written
pub complement_held : (k : Key) (m : Movement) (t : List ℕ) → movement_holds k m ≡ true → text_holds t ≡ true → Holds (complement (repeats k (posting_of m)) t)
unfolding repeats write_movement
complement_held k m t g h =
    let v = movement_values k (posting_of m) in
    let o : holds_all layout04 v ≡ true = sym (movement_holds_lem k m) ∙ g in
    (holds_repeated "04" (encode layout04 v) (written_length layout04 covers04 v o) (written_judged layout04 covers04 v o), held_text t h)
