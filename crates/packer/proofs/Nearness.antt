-- What `unpack_f32` and `unpack_f16` read is near the number over the scale: every raw value, every scale of the tables.
use mathlib.Core.Path.{◌≡◌, sym, ap, ◌∙◌, subst}
use mathlib.Core.Bool.{Bool, true, false, not, cond}
use mathlib.Core.List.{List}
use Prim.Native.Nat.{ℕ, zero, suc, ◌+◌, ◌-◌, ◌*◌, ◌^◌, ◌≤◌, ◌<◌}
use native.Mathlib.Nat.{pow-suc}
use native.Mathlib.Omega.{arith}
use lib.Dec.{T, ltb, ltb→lt, nltb→le}
use lib.IntN.{pos, negsuc}
use lib.Ieee.{Float, binary32, of_int, of_bits}
use Rattle.floats.specs.Near.{size}
use Rattle.floats.specs.Numbers.{over_scale}
use Rattle.floats.proofs.OverScale.{reading-near}
use Rattle.floats.proofs.Scales.{scales}
use Rattle.packer.specs.Numbers.{be_at, signed_of}
use Rattle.packer.specs.Unpacking.{scaled_at}
use Rattle.packer.specs.Nearness.{Bytes, raw_at, ScaledNear, ResultNear}
use Rattle.packer.proofs.Places.{read-given}
use Rattle.std.specs.Prelude.{Result, Ok, Err}
use Rattle.refusals.specs.Refusals.{consumed}
use Rattle.refusals.specs.declared.DecodeError.{DecodeError}

-- a signed number of either width is at most 2 ^ 31 from zero
signed-size : (all n : ℕ) → all ≤ 2 ^ 32 → size (signed_of all n) ≤ 2 ^ 31
unfolding signed_of
signed-size all n h = go (ltb (n * 2) all) (ltb→lt (n * 2) all) (nltb→le (n * 2) all)
  where
    go : (b : Bool) → (T b → n * 2 < all) → (T (not b) → all ≤ n * 2) → size (cond b (pos n) (negsuc (all - suc n))) ≤ 2 ^ 31
    go true k l = let m : n * 2 < all = k tt in omega arith
    go false k l = let m : all ≤ n * 2 = l tt in omega arith

-- so many bytes make a number below 256 to that power
pub number_small : (s : List ℕ) → Bytes s → (at width : ℕ) → be_at s at width < 256 ^ width
unfolding be_at
number_small s bytes at zero = omega arith
number_small s bytes at (suc width) = omega (arith, number_small s bytes at width, bytes (at + width), pow-suc 256 width)

-- ---- the raw number at a place, read
pub scaled-near : (width scale : ℕ) → 256 ^ width ≤ 2 ^ 32 → 0 < scale → scale ≤ 2 ^ 24 → (s : List ℕ) (at : ℕ)
    → ScaledNear width scale s at (over_scale (raw_at width s at) (of_int binary32 (pos scale)))
scaled-near width scale narrow positive small s at = reading-near (raw_at width s at) scale (signed-size (256 ^ width) (be_at s at width) narrow) positive small

-- ---- a scale of the tables, with the literal that the code passes for it
pub record TableScale (scale : ℕ) (literal : Float) : Type 0 where
  pub is : of_int binary32 (pos scale) ≡ literal
  pub positive : 0 < scale
  pub small : scale ≤ 2 ^ 24

pub one : TableScale 1 (of_bits binary32 0x3f80_0000)
one = record { is = scales.one; positive = omega arith; small = omega arith }

pub ten : TableScale 10 (of_bits binary32 0x4120_0000)
ten = record { is = scales.ten; positive = omega arith; small = omega arith }

pub hundred : TableScale 100 (of_bits binary32 0x42c8_0000)
hundred = record { is = scales.hundred; positive = omega arith; small = omega arith }

pub thousand : TableScale 1000 (of_bits binary32 0x447a_0000)
thousand = record { is = scales.thousand; positive = omega arith; small = omega arith }

pub ten-thousand : TableScale 10000 (of_bits binary32 0x461c_4000)
ten-thousand = record { is = scales.ten-thousand; positive = omega arith; small = omega arith }

pub million : TableScale 1000000 (of_bits binary32 0x4974_2400)
million = record { is = scales.million; positive = omega arith; small = omega arith }

-- whatever meets the contract of a scaled reader
module _ (width : ℕ) (narrow : 256 ^ width ≤ 2 ^ 32) {scale : ℕ} {literal : Float} (t : TableScale scale literal) where
  result-near : (s : List ℕ) (at : ℕ) (r : Result (Float × ℕ) DecodeError) → consumed r ≡ scaled_at width literal s at → ResultNear width scale s at r
  result-near s at (Ok (value, next)) e =
      subst (ScaledNear width scale s at)
      (ap (over_scale (raw_at width s at)) t.is ∙ ap (λ (r : Float × ℕ). r.0) (read-given width _ s at (value, next) (sym e)).1)
      (scaled-near width scale narrow t.positive t.small s at)
  result-near s at (Err e) p = tt

-- of the results of `unpack_f32`, at each scale of the tables
pub unpack-f32-near : {scale : ℕ} {literal : Float} → TableScale scale literal → (s : List ℕ) (at : ℕ) (r : Result (Float × ℕ) DecodeError)
    → consumed r ≡ scaled_at 4 literal s at → ResultNear 4 scale s at r
unpack-f32-near t = result-near 4 (omega arith) t

-- and of `unpack_f16`
pub unpack-f16-near : {scale : ℕ} {literal : Float} → TableScale scale literal → (s : List ℕ) (at : ℕ) (r : Result (Float × ℕ) DecodeError)
    → consumed r ≡ scaled_at 2 literal s at → ResultNear 2 scale s at r
unpack-f16-near t = result-near 2 (omega arith) t
