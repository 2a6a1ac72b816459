-- `packer::pack_i32` meets its contract.
use mir.Syntax.{w32}
use mir.ValLaws.{to_z-of_z}
use Rattle.packer.proofs.pack_i32.Goals as goal

pub returns : goal.returns
returns c = rw (← to_z-of_z w32 c.args.value c.ranges.value, ← c.as_u32.ensures) c.pack_be.ensures
