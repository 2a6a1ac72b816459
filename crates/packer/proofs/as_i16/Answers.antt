-- `packer::as_i16` meets its contract: std's signed reading is that of the specs.
use mathlib.Core.Path.{◌∙◌}
use Prim.Native.Nat.{◌%◌}
use Rattle.packer.proofs.Complement.{signed-reading, widened}
use Rattle.packer.proofs.as_i16.Goals as goal

pub returns : goal.returns
returns c = widened _ (record { sfits = c.cast_signed.type_inv }) ∙ c.cast_signed.ensures ∙ signed-reading 32768 (c.args.number % 65536)
