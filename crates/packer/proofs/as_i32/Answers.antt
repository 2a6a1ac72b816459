-- `packer::as_i32` meets its contract: std's signed reading is that of the specs.
use mathlib.Core.Path.{◌∙◌}
use Rattle.packer.proofs.Complement.{signed-reading, called-i32}
use Rattle.packer.proofs.as_i32.Goals as goal

pub returns : goal.returns
returns c = called-i32 _ _ c.cast_signed.type_inv (c.cast_signed.ensures ∙ signed-reading 2147483648 c.args.number)
