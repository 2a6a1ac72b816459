-- `firmware::name_or_zeros` meets its contract.
use mathlib.Core.Path.{ap, ◌∙◌}
use mathlib.Core.List.{List}
use Prim.Native.Nat.{ℕ}
use native.Mathlib.Omega.{arith}
use Rattle.firmware.proofs.Ends.{bytes-taken, next-taken, after-within}
use Rattle.firmware.proofs.name_or_zeros.Goals as goal

pub returns-clause-bytes : goal.returns-clause-bytes
returns-clause-bytes g c = ap (λ (given : List ℕ × ℕ). given.0) c.unwrap_or.ensures ∙ bytes-taken _ _ _ _ c.unpack_c_string.ensures

pub returns-clause-next : goal.returns-clause-next
returns-clause-next g c = ap (λ (given : List ℕ × ℕ). given.1) c.unwrap_or.ensures ∙ next-taken _ _ _ _ c.unpack_c_string.ensures

pub returns-clause-within : goal.returns-clause-within
returns-clause-within g c = omega (arith, returns-clause-next g c, after-within g.row.N c.args.payload.now c.args.at)
