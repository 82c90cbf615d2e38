-- Laws of whole numbers in 64 bits: a magnitude with its sign, sums and their bounds.
use mathlib.Core.Path.{◌≡◌, refl}
use mathlib.Core.Bool.{Bool, true, false}
use Prim.Native.Nat.{ℕ, zero, suc, ◌+◌, ◌^◌, ◌<◌, ◌≤◌}
use native.Mathlib.Omega.{arith}
use Rattle.std.proofs.lemmas.Int.{ints}
use lib.IntN.{ℤ, pos, negsuc, nat_abs, ◌+ℤ◌}
use lib.Signed.{mag}
use mir.Syntax.{w64}
use mir.Val.{SFits, to_z, of_z}
use mir.Facts.{to_z-of_z}
use Rattle.amounts.specs.Amounts.{signed_of}

pub nat_abs_signed : (d : Bool) (m : ℕ) → nat_abs (signed_of d m) ≡ m
nat_abs_signed true zero = refl
nat_abs_signed true (suc m) = refl
nat_abs_signed false m = refl

mag_le : (z : ℤ) → mag z ≤ nat_abs z
mag_le (pos n) = omega arith
mag_le (negsuc n) = omega arith

-- a whole number whose absolute value is below 2 ^ 63 fits an i64
pub fits_abs : (z : ℤ) → nat_abs z < 2 ^ 63 → SFits w64 z
fits_abs z h = record { sfits = omega (arith, mag_le z) }

-- and comes back from its bits
pub back : (v : ℤ) → nat_abs v < 2 ^ 63 → to_z w64 (of_z w64 v) ≡ v
back v h = to_z-of_z (fits_abs v h)

-- the absolute value of a sum is at most the sum of the absolute values
pub abs_add : (y z : ℤ) → nat_abs (y +ℤ z) ≤ nat_abs y + nat_abs z
abs_add y z = omega (arith, ints)
