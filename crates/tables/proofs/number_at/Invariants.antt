-- `tables::number_at` meets its contract: the number so far is that of the bytes passed, and below 256 for each.
use Prim.Native.Nat.{◌^◌, ◌<◌}
use mathlib.Core.Path.{◌≡◌}
use Rattle.packer.specs.Numbers.{be_at}
use Rattle.tables.proofs.number_at.Given as goal

abbrev pub invariant-loop-k : goal.invariant-loop-k
invariant-loop-k l = (l.number ≡ be_at l.part l.at l.k) × (l.number < 256 ^ l.k)
