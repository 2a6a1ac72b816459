-- The figures, held at a top value.
use mathlib.Core.Path.{◌≡◌}
use Prim.Native.Nat.{ℕ, ◌+◌, min}
use native.Mathlib.Omega.{arith}
use Rattle.buffer.specs.Buffer.{top, raised}

-- A figure that is a total held at the top, n higher: the total is n higher.
pub raised-total : (total n : ℕ) → raised (min total top) n ≡ min (total + n) top
unfolding raised
raised-total total n = omega arith
