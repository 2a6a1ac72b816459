-- `packer::unpack_i16` meets its contract.
use mathlib.Core.Path.{◌≡◌, ◌∙◌}
use borrow.Author.Rules.{rules}
use mir.Syntax.{w16}
use mir.ValLaws.{to_z-of_z}
use Rattle.std.specs.Prelude.{Err}
use Rattle.packer.specs.Numbers.{signed_of}
use Rattle.packer.proofs.Complement.{signed-reading}
use Rattle.packer.proofs.Places.{made, not_made}
use Rattle.packer.proofs.unpack_i16.Goals as goal

pub returns-in_err-number : goal.returns-in_err-number
returns-in_err-number c =
    let passed : c.from_residual.result ≡ Err c.in_err-number.field-0.0 = search rules in
    rw passed (not_made (signed_of 65536) _ _ _ _ _ c.in_err-number.ensures.0)

pub returns : goal.returns
returns c =
    made (signed_of 65536) _ _ _ _ _ _ _
    (to_z-of_z w16 _ (record { sfits = c.cast_signed.type_inv }) ∙ c.cast_signed.ensures ∙ signed-reading 32768 c.in_ok-number.number) c.in_ok-number.ensures.0
