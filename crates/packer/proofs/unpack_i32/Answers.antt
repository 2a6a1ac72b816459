-- `packer::unpack_i32` meets its contract.
use mathlib.Core.Path.{◌≡◌}
use borrow.Author.Rules.{rules}
use Rattle.std.specs.Prelude.{Err}
use Rattle.packer.proofs.Complement.{called-i32}
use Rattle.packer.specs.Numbers.{signed_of}
use Rattle.packer.proofs.Places.{made, not_made}
use Rattle.packer.proofs.unpack_i32.Goals as goal

pub returns-in_err-number : goal.returns-in_err-number
returns-in_err-number c =
    let passed : c.from_residual.result ≡ Err c.in_err-number.field-0.0 = search rules in
    rw passed (not_made (signed_of 4294967296) _ _ _ _ _ ((c.in_err-number.ensures).0))

pub returns : goal.returns
returns c = made (signed_of 4294967296) _ _ _ _ _ _ _ (called-i32 _ _ c.as_i32.type_inv c.as_i32.ensures) (c.in_ok-number.ensures).0
