-- `telemetry::word_over` meets its contract.
use mathlib.Core.Path.{ap, ◌∙◌}
use lib.IntN.{ℤ}
use Rattle.floats.specs.Numbers.{over_scale}
use Rattle.packer.proofs.Complement.{called-i32}
use Rattle.telemetry.proofs.word_over.Goals as goal

pub returns : goal.returns
returns c =
    c.scaled.ensures ∙ ap (λ (z : ℤ). over_scale z c.args.scale) (called-i32 _ _ c.as_i32.type_inv c.as_i32.ensures)
