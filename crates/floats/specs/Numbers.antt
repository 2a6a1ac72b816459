-- Scaled numbers, document 01, "Numbers". `Rattle.std.specs.Float.Ieee` is the kit's account of IEEE 754: `of_int` rounds to nearest, ties to even; `to_signed 31` is
-- an i32, of 31 bits and a sign.
use Rattle.std.specs.Prelude.{ℤ, Float}
use Rattle.std.specs.Float.Ieee as Ieee
use Rattle.std.specs.Float.{binary32}

-- "Reading: the whole number becomes the nearest binary32, ties to even, then one division by the scale."
unfoldable pub over_scale : ℤ → Float → Float
over_scale raw scale = Ieee.div binary32 (Ieee.of_int binary32 raw) scale

-- "Writing: one binary32 multiplication, then toward zero, held at -2147483648 and 2147483647, NaN gives 0."
unfoldable pub times_scale : Float → Float → ℤ
times_scale value scale = Ieee.to_signed 31 (Ieee.mul binary32 value scale)
