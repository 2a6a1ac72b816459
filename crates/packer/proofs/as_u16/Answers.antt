-- `packer::as_u16` meets its contract: std's bits of a signed number are those of the specs.
use mathlib.Core.Path.{ap, ◌∙◌}
use mir.Syntax.{w16}
use mir.Val.{of_z}
use mir.ValLaws.{to_z-of_z}
use Rattle.packer.proofs.Complement.{unsigned-bits}
use Rattle.packer.proofs.as_u16.Goals as goal

pub returns : goal.returns
returns c = c.cast_unsigned.ensures ∙ ap (of_z w16) (to_z-of_z w16 c.args.value c.ranges.value) ∙ unsigned-bits w16 c.args.value
