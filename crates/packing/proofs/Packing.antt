-- A packed number holds its four fields.
use mathlib.Core.Path.{◌≡◌}
use Prim.Native.Nat.{ℕ, ◌+◌, ◌*◌, ◌/◌, ◌%◌, ◌<◌}
use native.Mathlib.Omega.{arith}
use Rattle.packing.specs.Packing.{bit20, bit40, pack, a_in, b_in, c_in, kind_in, Fits, answered, refused, answered_of, refused_of}

module _ {kind a b c : ℕ} (f : Fits kind a b c) where
  pub a_back : a_in (pack kind a b c) ≡ a
  a_back = let p = f.a_fits in omega arith

  pub b_back : b_in (pack kind a b c) ≡ b
  b_back =
      let p = f.a_fits in
      let q = f.b_fits in
      let z : pack kind a b c / bit20 ≡ b + bit20 * c + bit40 * kind = omega arith in
      rw z (omega arith)

  pub c_back : c_in (pack kind a b c) ≡ c
  c_back =
      let p = f.a_fits in
      let q = f.b_fits in
      let r = f.c_fits in
      let z : pack kind a b c / bit40 ≡ c + bit20 * kind = omega arith in
      rw z (omega arith)

  pub kind_back : kind_in (pack kind a b c) ≡ kind
  kind_back =
      let p = f.a_fits in
      let q = f.b_fits in
      let r = f.c_fits in
      omega arith

-- of numbers that fit, the low bits are all
whole : (n : ℕ) → n < bit20 → n % bit20 ≡ n
whole n h = omega arith

pub answered_fits : {a b c : ℕ} → Fits 0 a b c → answered_of a b c ≡ answered a b c
unfolding answered_of
answered_fits {a} {b} {c} f = rw (whole a f.a_fits, whole b f.b_fits, whole c f.c_fits)

pub refused_fits : {number at : ℕ} → Fits 1 at number 0 → refused_of number at ≡ refused number at
unfolding refused_of
refused_fits {number} {at} f = rw (whole number f.b_fits, whole at f.a_fits)
