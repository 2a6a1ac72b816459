-- `raw_command::parts_of` meets its contract: the arms of its match, one a line.
use mathlib.Core.Path.{◌≡◌, refl}
use mir.Syntax.{w32}
use mir.ValLaws.{to_z-of_z}
use borrow.Author.Rules.{rules}
use Rattle.raw_command.specs.Commands.{flag_byte}
use Rattle.raw_command.proofs.Packing.{made}
use Rattle.raw_command.proofs.parts_of.Goals as goal

pub returns-in-SetDuty : goal.returns-in-SetDuty
returns-in-SetDuty c = made c.in-SetDuty.is c.sent-in-SetDuty.ensures (rw (← to_z-of_z w32 c.in-SetDuty.duty (search rules)) c.as_u32.ensures) (search rules)

pub returns-in-SetCurrent : goal.returns-in-SetCurrent
returns-in-SetCurrent c = made c.in-SetCurrent.is c.sent-in-SetCurrent.ensures (rw (← to_z-of_z w32 c.in-SetCurrent.current (search rules)) c.as_u32-in-SetCurrent.ensures) (search rules)

pub returns-in-SetCurrentBrake : goal.returns-in-SetCurrentBrake
returns-in-SetCurrentBrake c = made c.in-SetCurrentBrake.is c.sent-in-SetCurrentBrake.ensures (rw (← to_z-of_z w32 c.in-SetCurrentBrake.current (search rules)) c.as_u32-in-SetCurrentBrake.ensures) (search rules)

pub returns-in-SetRpm : goal.returns-in-SetRpm
returns-in-SetRpm c = made c.in-SetRpm.is c.sent-in-SetRpm.ensures (rw (← to_z-of_z w32 c.in-SetRpm.rpm (search rules)) c.as_u32-in-SetRpm.ensures) (search rules)

pub returns-in-SetPos : goal.returns-in-SetPos
returns-in-SetPos c = made c.in-SetPos.is c.sent-in-SetPos.ensures (rw (← to_z-of_z w32 c.in-SetPos.position (search rules)) c.as_u32-in-SetPos.ensures) (search rules)

pub returns-in-SetHandbrake : goal.returns-in-SetHandbrake
returns-in-SetHandbrake c = made c.in-SetHandbrake.is c.sent-in-SetHandbrake.ensures (rw (← to_z-of_z w32 c.in-SetHandbrake.current (search rules)) c.as_u32-in-SetHandbrake.ensures) (search rules)

pub returns-in-GetValuesSelective : goal.returns-in-GetValuesSelective
returns-in-GetValuesSelective c = made c.in-GetValuesSelective.is c.sent-in-GetValuesSelective.ensures refl (search rules)

pub returns-in-GetValuesSetupSelective : goal.returns-in-GetValuesSetupSelective
returns-in-GetValuesSetupSelective c = made c.in-GetValuesSetupSelective.is c.sent-in-GetValuesSetupSelective.ensures refl (search rules)

pub returns-in-SetCurrentRel : goal.returns-in-SetCurrentRel
returns-in-SetCurrentRel c = made c.in-SetCurrentRel.is c.sent-in-SetCurrentRel.ensures (rw (← to_z-of_z w32 c.in-SetCurrentRel.current_rel (search rules)) c.as_u32-in-SetCurrentRel.ensures) (search rules)

pub returns-in-SetOdometer : goal.returns-in-SetOdometer
returns-in-SetOdometer c = made c.in-SetOdometer.is c.sent-in-SetOdometer.ensures refl (search rules)

pub returns-in-GetStats : goal.returns-in-GetStats
returns-in-GetStats c = made c.in-GetStats.is c.sent-in-GetStats.ensures refl (search rules)

pub returns-in-ResetStats : goal.returns-in-ResetStats
returns-in-ResetStats c = made c.in-ResetStats.is c.sent-in-ResetStats.ensures (search rules) (search rules)

pub returns-in-Shutdown : goal.returns-in-Shutdown
returns-in-Shutdown c =
    let force : c.from-in-Shutdown.result ≡ flag_byte c.in-Shutdown.force = search rules in
    let restart : c.from-in-Shutdown-2.result ≡ flag_byte c.in-Shutdown.restart = search rules in
    made c.in-Shutdown.is c.sent-in-Shutdown.ensures (rw (force, restart)) (search rules)

pub returns-in-MotorEstop : goal.returns-in-MotorEstop
returns-in-MotorEstop c = made c.in-MotorEstop.is c.sent-in-MotorEstop.ensures refl (search rules)
