-- The scales of document 01, each with the literal that the code passes for it: a literal is a float by its bits.
use Rattle.std.proofs.Common.{◌≡◌, pos, refl}
use lib.Ieee.{binary32, of_int, of_bits}

pub record Scales : Type 0 where
  pub one : of_int binary32 (pos 1) ≡ of_bits binary32 0x3f80_0000
  pub ten : of_int binary32 (pos 10) ≡ of_bits binary32 0x4120_0000
  pub hundred : of_int binary32 (pos 100) ≡ of_bits binary32 0x42c8_0000
  pub thousand : of_int binary32 (pos 1000) ≡ of_bits binary32 0x447a_0000
  pub ten-thousand : of_int binary32 (pos 10000) ≡ of_bits binary32 0x461c_4000
  pub hundred-thousand : of_int binary32 (pos 100000) ≡ of_bits binary32 0x47c3_5000
  pub million : of_int binary32 (pos 1000000) ≡ of_bits binary32 0x4974_2400

pub scales : Scales
unfolding of_int of_bits
scales = record { one = refl; ten = refl; hundred = refl; thousand = refl; ten-thousand = refl; hundred-thousand = refl; million = refl }
