-- `packer::as_u32` meets its contract: std's bits of a signed number are those of the specs.
use mathlib.Core.Path.{ap, ◌∙◌}
use mir.Syntax.{w32}
use mir.Val.{of_z}
use mir.ValLaws.{to_z-of_z}
use Rattle.packer.proofs.Complement.{unsigned-bits}
use Rattle.packer.proofs.as_u32.Goals as goal

pub returns : goal.returns
returns c = c.cast_unsigned.ensures ∙ ap (of_z w32) (to_z-of_z w32 c.args.value c.ranges.value) ∙ unsigned-bits w32 c.args.value
