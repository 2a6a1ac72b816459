-- Two different answers are never one.
use mathlib.Core.Path.{◌≡◌}
use Prim.Native.Nat.{ℕ}
use native.Mathlib.Omega.{arith}

-- two different constructors are never one answer: from 0 ≡ 1 anything follows
pub none : {A : Type 0} → ◌≡◌ {A = ℕ} 0 1 → A
none z = absurd (omega arith)
