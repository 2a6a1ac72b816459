-- The numbers that document 01 names, read and written. `fin s m e` is m * 2 ^ e, negative where s is true.
use Rattle.std.proofs.Common.{◌≡◌, true, false, pos, negsuc, refl}
use lib.Ieee.{nan, inf, fin, binary32, of_int, div, mul, to_signed}
use Rattle.floats.specs.Numbers.{over_scale, times_scale}

-- "16777217 over 1 reads 16777216": 2 ^ 24
pub ties-down : over_scale (pos 16777217) (of_int binary32 (pos 1)) ≡ fin false 1 (pos 24)
unfolding over_scale of_int div
ties-down = refl

-- "16777219 reads 16777220": 4194305 * 4
pub ties-up : over_scale (pos 16777219) (of_int binary32 (pos 1)) ≡ fin false 4194305 (pos 2)
unfolding over_scale of_int div
ties-up = refl

-- "SetCurrent(1.5) 6 0 0 5 220": 1.5 over 1000 is written as 1500
pub one_and_a_half : times_scale (fin false 3 (negsuc 0)) (of_int binary32 (pos 1000)) ≡ pos 1500
unfolding times_scale of_int mul to_signed
one_and_a_half = refl

-- "held at -2147483648 and 2147483647, NaN gives 0"
pub held_low : times_scale (inf true) (of_int binary32 (pos 1000)) ≡ negsuc 2147483647
unfolding times_scale of_int mul to_signed
held_low = refl

pub held_high : times_scale (inf false) (of_int binary32 (pos 1000)) ≡ pos 2147483647
unfolding times_scale of_int mul to_signed
held_high = refl

pub nan-is-zero : times_scale nan (of_int binary32 (pos 1000)) ≡ pos 0
unfolding times_scale mul to_signed
nan-is-zero = refl
