-- `packer::put_be` meets its contract: storing the digits that are left gives what storing all of them gives.
use Prim.Native.Nat.{◌≤◌}
use mathlib.Core.Path.{◌≡◌}
use lib.ListN.{length}
use lib.Seq.{sets}
use Rattle.packer.specs.Numbers.{big_endian}
use Rattle.packer.proofs.put_be.Given as goal

abbrev pub invariant-loop-k : goal.invariant-loop-k
invariant-loop-k l =
    (l.k ≤ l.width) × (length l.buf ≡ length l.initial.buf) × (sets l.buf l.pos (big_endian l.k l.rest) ≡ sets l.initial.buf l.pos (big_endian l.width l.number))

abbrev pub decreases-loop-k : goal.decreases-loop-k
decreases-loop-k l = l.k
