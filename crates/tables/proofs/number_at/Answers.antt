-- `tables::number_at` meets its contract: the number so far is that of the bytes passed, and below 256 for each.
use Prim.Native.Nat.{ℕ, ◌^◌, ◌≤◌, ◌<◌}
use mathlib.Core.Path.{refl}
use native.Mathlib.Omega.{arith}
use native.Mathlib.Numerals.{add-one}
use native.Mathlib.Nat.{pow-le-pow_right, pow-suc}
use Rattle.packer.specs.Numbers.{be_at}
use Rattle.tables.proofs.number_at.Goals as goal

small : (k width : ℕ) → k < width → width ≤ 4 → 256 ^ k ≤ 256 ^ 3
small k width h l = let j : k ≤ 3 = omega arith in pow-le-pow_right (omega arith) j

pub loop-k-init : goal.loop-k-init
unfolding be_at
loop-k-init c = (refl, omega arith)

pub overflow_mul-number : goal.overflow_mul-number
overflow_mul-number c = omega (arith, small _ _ c.loop-k-test.true c.requires.1)

pub overflow_add-number : goal.overflow_add-number
overflow_add-number c = omega (arith, small _ _ c.loop-k-test.true c.requires.1)

pub loop-k-preserved : goal.loop-k-preserved
unfolding be_at
loop-k-preserved c = (rw add-one (omega (arith, c.byte_at.ensures)), rw (add-one, pow-suc) (omega arith))
