-- The definition of an amount at each return of `read`, and the bytes that `put_signed` leaves.
use mathlib.Core.Path.{◌≡◌, refl, sym, ◌∙◌}
use mathlib.Core.Bool.{Bool, true, false, ◌&&◌, and-false}
use mathlib.Core.List.{List, [], ◌∷◌, ◌++◌}
use Prim.Native.Nat.{ℕ, ◌+◌, ◌*◌, ◌%◌, ◌<◌, ◌≤◌}
use native.Mathlib.Omega.{arith}
use lib.Dec.{leb, ltb, eqb}
use lib.ListN.{length, take, drop, get_or, set, drop_of_length-le}
use lib.Seq.{length-take-le, drop-cons, set_at}
use borrow.Author.Tests.{ne_eqb, eq-eqb}
use Rattle.zones.specs.Choice.{pick}
use Rattle.zones.specs.Class.{digit, all}
use Rattle.zones.specs.Answers.{Tested, Number, PutNumber}
use Rattle.zones.proofs.Called.{number_value, number_below, put_digits}
use Rattle.zones.proofs.Decimal.{length_digits}
use Rattle.zones.specs.Number.{digits_of}
use Rattle.amounts.specs.Amounts.{sign_index, sign_place, sign_of, is_debit, magnitude, signed_of, amount_of}
use Rattle.std.specs.Prelude.{Some, None}

-- a sign has its place below 20, and another byte has none
placed_by : (t : Bool) (n k : ℕ) → Some k ≡ pick t (Some n) None → (k ≡ n) × (t ≡ true)
placed_by true n k e = (cc, refl)
placed_by false n k e = cc

placed_at : (b k : ℕ) → Some k ≡ sign_place b → (k ≡ sign_index b) × (ltb (sign_index b) 20 ≡ true)
placed_at b k e = placed_by (ltb (sign_index b) 20) (sign_index b) k e

unplaced_by : (t : Bool) (n : ℕ) → None ≡ pick t (Some n) None → t ≡ false
unplaced_by true n e = cc
unplaced_by false n e = refl

unplaced : (b : ℕ) → None ≡ sign_place b → ltb (sign_index b) 20 ≡ false
unplaced b e = unplaced_by (ltb (sign_index b) 20) (sign_index b) e

module _ (s : List ℕ) where
  pub read_short : (length s ≡ 14 → ⊥) → None ≡ amount_of s
  unfolding amount_of
  read_short h = rw (ne_eqb (length s) 14 h)

  pub read_undigit : {r : Bool} → Tested digit (take 13 s) r → r ≡ false → None ≡ amount_of s
  unfolding amount_of
  read_undigit t e = rw (sym t.answer ∙ e, and-false (eqb (length s) 14))

  pub read_unsigned : None ≡ sign_place (get_or s 13 0) → None ≡ amount_of s
  unfolding amount_of sign_of
  read_unsigned e = rw (unplaced _ e, and-false (eqb (length s) 14 && all digit (take 13 s)))

  -- the thirteen digits and the sign, as the code has them
  pub read_whole : (k n : ℕ) {r : Bool} → length s ≡ 14 → Tested digit (take 13 s) r → r ≡ true → Some k ≡ sign_place (get_or s 13 0) → Number (take 13 s) n
      → Some (signed_of (leb 10 k) (n * 10 + k % 10)) ≡ amount_of s
  unfolding amount_of sign_of is_debit magnitude
  read_whole k n l d e p q =
      let w : length (take 13 s) ≡ 13 = length-take-le 13 s (omega arith) in
      let g = placed_at _ k p in
      rw (g.1, ← g.0, number_value q (omega arith), eq-eqb (length s) 14 l, sym d.answer ∙ e)

-- what thirteen digits are worth
pub thirteen : (s : List ℕ) {n : ℕ} {r : Bool} → length s ≡ 13 → Tested digit s r → r ≡ true → Number s n → n < 10000000000000
thirteen s l d e n = number_below n 13 l (omega arith) (sym d.answer ∙ e)

pub ruleset reading = (read_short, read_undigit, read_unsigned, read_whole, thirteen)

-- the thirteen digits written, and the last byte
pub put_text : (n x : ℕ) (l l' : List ℕ) → length l ≡ 14 → PutNumber n (take 13 l) l' → set (l' ++ drop 13 l) 13 x ≡ digits_of 13 n ++ (x ∷ [])
put_text n x l l' q p =
    let b : 13 < length l = omega arith in
    let e : length l ≤ 14 = omega arith in
    rw (put_digits p 13 (length-take-le 13 l (omega arith)), drop-cons l 13 0, drop_of_length-le l e) (set_at (digits_of 13 n) (get_or l 13 0) [] x 13 (length_digits 13 n))
