-- `command::raw_of` meets its contract: the arms of its match, one a line.
use mathlib.Core.Path.{ap}
use lib.IntN.{ℤ}
use Rattle.floats.proofs.Scales.{scales}
use Rattle.packer.proofs.Complement.{called-i32}
use Rattle.raw_command.specs.declared.RawCommand.TheVariants as raw
use Rattle.command.proofs.Sizes.{arm}
use Rattle.command.proofs.raw_of.Goals as goal

pub returns-in-SetDuty : goal.returns-in-SetDuty
returns-in-SetDuty c = arm c.in-SetDuty.is (ap (λ (z : ℤ). raw.SetDuty z) (called-i32 c.unscaled.result _ c.unscaled.type_inv (rw scales.hundred-thousand c.unscaled.ensures)))

pub returns-in-SetCurrent : goal.returns-in-SetCurrent
returns-in-SetCurrent c = arm c.in-SetCurrent.is (ap (λ (z : ℤ). raw.SetCurrent z) (called-i32 c.unscaled-in-SetCurrent.result _ c.unscaled-in-SetCurrent.type_inv (rw scales.thousand c.unscaled-in-SetCurrent.ensures)))

pub returns-in-SetCurrentBrake : goal.returns-in-SetCurrentBrake
returns-in-SetCurrentBrake c = arm c.in-SetCurrentBrake.is (ap (λ (z : ℤ). raw.SetCurrentBrake z) (called-i32 c.unscaled-in-SetCurrentBrake.result _ c.unscaled-in-SetCurrentBrake.type_inv (rw scales.thousand c.unscaled-in-SetCurrentBrake.ensures)))

pub returns-in-SetPos : goal.returns-in-SetPos
returns-in-SetPos c = arm c.in-SetPos.is (ap (λ (z : ℤ). raw.SetPos z) (called-i32 c.unscaled-in-SetPos.result _ c.unscaled-in-SetPos.type_inv (rw scales.million c.unscaled-in-SetPos.ensures)))

pub returns-in-SetHandbrake : goal.returns-in-SetHandbrake
returns-in-SetHandbrake c = arm c.in-SetHandbrake.is (ap (λ (z : ℤ). raw.SetHandbrake z) (called-i32 c.unscaled-in-SetHandbrake.result _ c.unscaled-in-SetHandbrake.type_inv (rw scales.thousand c.unscaled-in-SetHandbrake.ensures)))

pub returns-in-SetCurrentRel : goal.returns-in-SetCurrentRel
returns-in-SetCurrentRel c = arm c.in-SetCurrentRel.is (ap (λ (z : ℤ). raw.SetCurrentRel z) (called-i32 c.unscaled-in-SetCurrentRel.result _ c.unscaled-in-SetCurrentRel.type_inv (rw scales.hundred-thousand c.unscaled-in-SetCurrentRel.ensures)))
