-- `checksum::byte_in` meets its contract. The loop's invariant: the steps left, from the register as it is, give the answer.
use mathlib.Core.Path.{◌≡◌, refl}
use Prim.Native.Nat.{◌-◌}
use native.Mathlib.Omega.{arith}
use Rattle.checksum.specs.Xmodem.{steps_of, byte_in_of}
use Rattle.checksum.proofs.Turns.{step-more}
use Rattle.checksum.proofs.byte_in.Goals as goal

pub loop-init : goal.loop-init
unfolding byte_in_of
loop-init c = (omega arith, refl)

pub loop-preserved : goal.loop-preserved
loop-preserved c = (omega arith, step-more _ _ _ _ (omega arith) c.step-mixed.ensures c.loop.invariant.1)

pub returns : goal.returns
unfolding steps_of
returns c = let done : 8 - c.loop.counter ≡ 0 = omega arith in rw done at c.loop.invariant.1
