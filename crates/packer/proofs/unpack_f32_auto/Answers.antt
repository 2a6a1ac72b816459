-- `packer::unpack_f32_auto` meets its contract.
use mathlib.Core.Path.{◌≡◌}
use borrow.Author.Rules.{rules}
use Rattle.std.specs.Prelude.{Err}
use lib.Ieee.{binary32, of_bits}
use Rattle.packer.proofs.Places.{made, not_made}
use Rattle.packer.proofs.unpack_f32_auto.Goals as goal

pub returns-in_err-bits : goal.returns-in_err-bits
returns-in_err-bits c =
    let passed : c.from_residual.result ≡ Err c.in_err-bits.field-0.0 = search rules in
    rw passed (not_made (of_bits binary32) _ _ _ _ _ (c.in_err-bits.ensures))

pub returns : goal.returns
returns c = made (of_bits binary32) _ _ _ _ _ _ _ c.f32_from_bits.ensures c.in_ok-bits.ensures
