-- The binary32 that a whole number becomes, by IEEE 754-2019, 4.3.1, round_ties_to_even: "the floating-point number nearest to the infinitely
-- precise result shall be delivered; if the two nearest floating-point numbers bracketing an unrepresentable infinitely precise result are
-- equally near, the one with an even least significant digit shall be delivered". The claim is on the values of `Rattle.std.specs.Float.Ieee`, over whole numbers
-- and without fractions.
use Rattle.std.specs.Prelude.{◌≡◌, ℕ, ◌+◌, ◌*◌, ◌%◌, ◌≤◌, cond, T, ◌⊎◌, ℤ, to_bits, Float}
use Rattle.std.specs.Bool.{beq}
use Rattle.std.specs.Float.{nan, inf, fin, binary32}
use Rattle.std.specs.Float.Ieee.{up, down, fits}
use Rattle.std.specs.Float.Ieee.Scale.{finite}
use Rattle.floats.specs.Near.{gap, size, negative}

-- The distance of a finite float from a whole number, | x - raw |, is the fraction `distance x raw` / `over x`. The magnitude of `fin t m e` is
-- m * up e / down e, and that of raw is size raw * down e / down e; the distance is their gap if the signs agree, and else their sum.
-- A NaN and an infinity have no distance: `NearestEven` leaves them out.
abbrev pub distance : Float → ℤ → ℕ
distance nan raw = 0
distance (inf t) raw = 0
distance (fin t m e) raw = cond (beq t (negative raw)) (gap (m * up e) (size raw * down e)) (m * up e + size raw * down e)

abbrev pub over : Float → ℕ
over nan = 1
over (inf t) = 1
over (fin t m e) = down e

-- x is the binary32 that raw is rounded to; for 0 both zeros are, and `ReadingNear` has the sign. `fits binary32` says
-- that a value is one of binary32. The last bit of its pattern is the least significant digit of its significand.
pub record NearestEven (raw : ℤ) (x : Float) : Type 0 where
  pub is_finite : T (finite x)
  pub is-binary32 : T (fits binary32 x)
  -- none is nearer: distance x raw / over x ≤ distance y raw / over y
  pub nearest : (y : Float) → T (finite y) → T (fits binary32 y) → distance x raw * over y ≤ distance y raw * over x
  -- if another is as near, x is the even one
  pub even : (y : Float) → T (finite y) → T (fits binary32 y) → distance x raw * over y ≡ distance y raw * over x → (y ≡ x) ⊎ (to_bits binary32 x % 2 ≡ 0)
