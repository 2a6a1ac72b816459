-- `packer::be` meets its contract: the number so far is that of the bytes passed, and below 256 for each.
use Prim.Native.Nat.{ℕ, ◌+◌, ◌^◌, ◌≤◌, ◌<◌}
use mathlib.Core.Path.{◌≡◌, refl}
use native.Mathlib.Omega.{arith}
use native.Mathlib.Numerals.{add-one}
use native.Mathlib.Nat.{pow-le-pow_right, pow-suc}
use Rattle.packer.specs.Numbers.{be_at}
use Rattle.packer.proofs.be.Goals as goal

small : (k width : ℕ) → k < width → width ≤ 4 → 256 ^ k ≤ 256 ^ 3
small k width h l = let j : k ≤ 3 = omega arith in pow-le-pow_right (omega arith) j

pub loop-k-init : goal.loop-k-init
unfolding be_at
loop-k-init c = (omega arith, refl, omega arith)

pub overflow_mul-number : goal.overflow_mul-number
overflow_mul-number c = omega (arith, small _ _ c.loop-k-test.true c.requires.0)

pub bounds-buf-pos : goal.bounds-buf-pos
bounds-buf-pos c = omega arith

pub overflow_add-number-in-loop-k : goal.overflow_add-number-in-loop-k
overflow_add-number-in-loop-k c = omega (arith, small _ _ c.loop-k-test.true c.requires.0, c.type_inv.buf (c.args.pos + c.loop-k.k))

pub loop-k-smaller : goal.loop-k-smaller
loop-k-smaller c = omega arith

pub loop-k-preserved : goal.loop-k-preserved
unfolding be_at
loop-k-preserved c = (
  omega arith,
  rw add-one (cc),
  rw (add-one, pow-suc) (omega (arith, c.type_inv.buf (c.args.pos + c.loop-k.k))),
)

pub returns : goal.returns
returns c =
    let h : c.loop-k.k ≡ c.args.width = omega arith in
    (rw h at c.loop-k.invariant.1, rw h at c.loop-k.invariant.2)
