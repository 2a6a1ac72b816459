-- `packer::pack_f32` meets its contract.
use mathlib.Core.Path.{refl}
use Rattle.packer.proofs.Complement.{called-i32}
use Rattle.packer.proofs.pack_f32.Goals as goal

pub returns : goal.returns
returns c = rw (← c.unscaled.ensures, ← called-i32 c.unscaled.result _ c.unscaled.type_inv refl) c.pack_i32.ensures
