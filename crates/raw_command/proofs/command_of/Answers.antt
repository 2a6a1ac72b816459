-- `raw_command::command_of` meets its contract: the arms of its match, one a line.
use mathlib.Core.Bool.{Bool}
use mathlib.Core.Path.{refl, ap}
use Prim.Native.Nat.{ℕ}
use native.Mathlib.Omega.{arith}
use lib.IntN.{ℤ}
use Rattle.format.specs.declared.CommandId.TheVariants as id
use Rattle.packer.proofs.Complement.{called-i32}
use Rattle.raw_command.proofs.Arms.{arm, flag-there, flags-there}
use Rattle.raw_command.proofs.command_of.Goals as goal

pub returns-in-FwVersion : goal.returns-in-FwVersion
returns-in-FwVersion c = arm c.args.bytes.now c.in-FwVersion.is refl

pub returns-in-GetValues : goal.returns-in-GetValues
returns-in-GetValues c = arm c.args.bytes.now c.in-GetValues.is refl

pub returns-in-SetDuty : goal.returns-in-SetDuty
returns-in-SetDuty c = arm c.args.bytes.now c.in-SetDuty.is (ap (λ (z : ℤ). record { id = id.SetDuty; value = z }) (called-i32 c.signed_in.result _ c.signed_in.type_inv c.signed_in.ensures))

pub returns-in-SetCurrent : goal.returns-in-SetCurrent
returns-in-SetCurrent c = arm c.args.bytes.now c.in-SetCurrent.is (ap (λ (z : ℤ). record { id = id.SetCurrent; value = z }) (called-i32 c.signed_in-in-SetCurrent.result _ c.signed_in-in-SetCurrent.type_inv c.signed_in-in-SetCurrent.ensures))

pub returns-in-SetCurrentBrake : goal.returns-in-SetCurrentBrake
returns-in-SetCurrentBrake c = arm c.args.bytes.now c.in-SetCurrentBrake.is (ap (λ (z : ℤ). record { id = id.SetCurrentBrake; value = z }) (called-i32 c.signed_in-in-SetCurrentBrake.result _ c.signed_in-in-SetCurrentBrake.type_inv c.signed_in-in-SetCurrentBrake.ensures))

pub returns-in-SetRpm : goal.returns-in-SetRpm
returns-in-SetRpm c = arm c.args.bytes.now c.in-SetRpm.is (ap (λ (z : ℤ). record { id = id.SetRpm; value = z }) (called-i32 c.signed_in-in-SetRpm.result _ c.signed_in-in-SetRpm.type_inv c.signed_in-in-SetRpm.ensures))

pub returns-in-SetPos : goal.returns-in-SetPos
returns-in-SetPos c = arm c.args.bytes.now c.in-SetPos.is (ap (λ (z : ℤ). record { id = id.SetPos; value = z }) (called-i32 c.signed_in-in-SetPos.result _ c.signed_in-in-SetPos.type_inv c.signed_in-in-SetPos.ensures))

pub returns-in-SetHandbrake : goal.returns-in-SetHandbrake
returns-in-SetHandbrake c = arm c.args.bytes.now c.in-SetHandbrake.is (ap (λ (z : ℤ). record { id = id.SetHandbrake; value = z }) (called-i32 c.signed_in-in-SetHandbrake.result _ c.signed_in-in-SetHandbrake.type_inv c.signed_in-in-SetHandbrake.ensures))

pub returns-in-Reboot : goal.returns-in-Reboot
returns-in-Reboot c = arm c.args.bytes.now c.in-Reboot.is refl

pub returns-in-Alive : goal.returns-in-Alive
returns-in-Alive c = arm c.args.bytes.now c.in-Alive.is refl

pub returns-in-GetValuesSelective : goal.returns-in-GetValuesSelective
returns-in-GetValuesSelective c = arm c.args.bytes.now c.in-GetValuesSelective.is (ap (λ (n : ℕ). record { id = id.GetValuesSelective; value = n }) c.word_in.ensures)

pub returns-in-GetValuesSetupSelective : goal.returns-in-GetValuesSetupSelective
returns-in-GetValuesSetupSelective c = arm c.args.bytes.now c.in-GetValuesSetupSelective.is (ap (λ (n : ℕ). record { id = id.GetValuesSetupSelective; value = n }) c.word_in-in-GetValuesSetupSelective.ensures)

pub returns-in-SetCurrentRel : goal.returns-in-SetCurrentRel
returns-in-SetCurrentRel c = arm c.args.bytes.now c.in-SetCurrentRel.is (ap (λ (z : ℤ). record { id = id.SetCurrentRel; value = z }) (called-i32 c.signed_in-in-SetCurrentRel.result _ c.signed_in-in-SetCurrentRel.type_inv c.signed_in-in-SetCurrentRel.ensures))

pub returns-in-SetOdometer : goal.returns-in-SetOdometer
returns-in-SetOdometer c = arm c.args.bytes.now c.in-SetOdometer.is (ap (λ (n : ℕ). record { id = id.SetOdometer; value = n }) c.word_in-in-SetOdometer.ensures)

pub returns-in-GetStats : goal.returns-in-GetStats
returns-in-GetStats c = arm c.args.bytes.now c.in-GetStats.is (ap (λ (n : ℕ). record { id = id.GetStats; value = n }) c.half_in.ensures)

pub returns-in-ResetStats : goal.returns-in-ResetStats
returns-in-ResetStats c = arm c.args.bytes.now c.in-ResetStats.is (ap (λ (set : Bool). record { id = id.ResetStats; value = set }) (flag-there c.args.bytes.now _ c.flag_in.ensures))

pub returns-in-Shutdown : goal.returns-in-Shutdown
returns-in-Shutdown c = arm c.args.bytes.now c.in-Shutdown.is (ap (λ (both : Bool × Bool). record { id = id.Shutdown; value = both }) (flags-there c.args.bytes.now _ _ (omega (arith, c.type_inv.bytes 2)) c.flag_in-in-Shutdown.ensures c.flag_in-in-Shutdown-2.ensures))

pub returns-in-FwInfo : goal.returns-in-FwInfo
returns-in-FwInfo c = arm c.args.bytes.now c.in-FwInfo.is refl

pub returns-in-MotorEstop : goal.returns-in-MotorEstop
returns-in-MotorEstop c = arm c.args.bytes.now c.in-MotorEstop.is (ap (λ (n : ℕ). record { id = id.MotorEstop; value = n }) c.half_in-in-MotorEstop.ensures)
