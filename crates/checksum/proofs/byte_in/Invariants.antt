-- `checksum::byte_in` meets its contract. The loop's invariant: the steps left, from the register as it is, give the answer.
use mathlib.Core.Path.{◌≡◌}
use Prim.Native.Nat.{◌-◌, ◌≤◌}
use Rattle.checksum.specs.Xmodem.{steps_of, byte_in_of}
use Rattle.checksum.proofs.byte_in.Given as goal

abbrev pub invariant-loop : goal.invariant-loop
invariant-loop l = (l.counter ≤ 8) × (steps_of (8 - l.counter) l.mixed ≡ byte_in_of l.register l.byte)
