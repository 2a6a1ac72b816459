-- `packer::unpack_f32` meets its contract.
use mathlib.Core.Path.{◌≡◌, ◌∙◌}
use borrow.Author.Rules.{rules}
use Rattle.std.specs.Prelude.{Err}
use mathlib.Core.Path.{ap}
use lib.IntN.{ℤ}
use Rattle.std.proofs.Common.{w32, to_z, of_z}
use Rattle.floats.specs.Numbers.{over_scale}
use Rattle.packer.proofs.Places.{made, not_made}
use Rattle.packer.proofs.unpack_f32.Goals as goal

pub returns-in_err-raw : goal.returns-in_err-raw
returns-in_err-raw c =
    let passed : c.from_residual.result ≡ Err c.in_err-raw.field-0.0 = search rules in
    rw passed (not_made (λ (raw : ℤ). over_scale raw c.args.scale) _ _ _ _ _ (c.in_err-raw.ensures))

pub returns : goal.returns
returns c =
    let same : to_z w32 (of_z w32 c.in_ok-raw.raw) ≡ c.in_ok-raw.raw = search rules in
    made (λ (raw : ℤ). over_scale raw c.args.scale) _ _ _ _ _ _ _ (c.scaled.ensures ∙ ap (λ (raw : ℤ). over_scale raw c.args.scale) same) c.in_ok-raw.ensures
