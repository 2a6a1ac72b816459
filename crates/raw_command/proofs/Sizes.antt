-- How many bytes a plain command has.
use mathlib.Core.Path.{◌≡◌}
use Prim.Native.Nat.{◌≤◌}
use native.Mathlib.Omega.{arith}
use lib.ListN.{length}
use Rattle.packer.proofs.Writes.{digits-length}
use Rattle.raw_command.specs.Commands.{Form, bare, flag, flags, half, word, signed, form_of, width_of, Plain, width_in, number_in, bytes_in, size_in}

pub narrow : (form : Form) → width_of form ≤ 4
narrow bare = omega arith
narrow flag = omega arith
narrow flags = omega arith
narrow half = omega arith
narrow word = omega arith
narrow signed = omega arith

-- the lengths that document 01 gives are those of the bytes, from one to five
pub sizes : (plain : Plain) → (length (bytes_in plain) ≡ size_in plain) × ((1 ≤ size_in plain) × (size_in plain ≤ 5))
sizes plain = let n = narrow (form_of plain.id) in (omega (arith, digits-length (width_in plain) (number_in plain)), (omega arith, omega arith))
