-- Plain commands as a caller gives them: document 01, "Commands", with the scales of "Numbers". What is sent of each is described in crate `raw_command`.
use Rattle.std.specs.Prelude.{List, ℕ, ℤ, pos, Float}
use Rattle.std.specs.Float.Ieee as Ieee
use Rattle.std.specs.Float.{binary32}
use Rattle.floats.specs.Numbers.{times_scale}
use Rattle.raw_command.specs.Commands as sent
use Rattle.raw_command.specs.declared.RawCommand.{RawCommand}
use Rattle.raw_command.specs.declared.RawCommand.TheVariants as raw
use Rattle.command.specs.declared.Command.{Command}
use Rattle.command.specs.declared.Command.TheVariants.{FwVersion, GetValues, SetDuty, SetCurrent, SetCurrentBrake, SetRpm, SetPos, SetHandbrake}
use Rattle.command.specs.declared.Command.TheVariants.{Reboot, Alive, GetValuesSelective, GetValuesSetupSelective, SetCurrentRel, SetOdometer}
use Rattle.command.specs.declared.Command.TheVariants.{GetStats, ResetStats, Shutdown, FwInfo, MotorEstop}

-- a value times its scale: "Scales: duty and relative current 100000, the three currents 1000, position 1000000."
abbrev pub whole_number : ℕ → Float → ℤ
whole_number scale value = times_scale value (Ieee.of_int binary32 (pos scale))

-- a command with the whole number that is sent
abbrev pub raw_of : Command → RawCommand
raw_of FwVersion = raw.FwVersion
raw_of GetValues = raw.GetValues
raw_of (SetDuty duty) = raw.SetDuty (whole_number 100000 duty)
raw_of (SetCurrent current) = raw.SetCurrent (whole_number 1000 current)
raw_of (SetCurrentBrake current) = raw.SetCurrentBrake (whole_number 1000 current)
raw_of (SetRpm rpm) = raw.SetRpm rpm
raw_of (SetPos position) = raw.SetPos (whole_number 1000000 position)
raw_of (SetHandbrake current) = raw.SetHandbrake (whole_number 1000 current)
raw_of Reboot = raw.Reboot
raw_of Alive = raw.Alive
raw_of (GetValuesSelective mask) = raw.GetValuesSelective mask
raw_of (GetValuesSetupSelective mask) = raw.GetValuesSetupSelective mask
raw_of (SetCurrentRel current) = raw.SetCurrentRel (whole_number 100000 current)
raw_of (SetOdometer odometer) = raw.SetOdometer odometer
raw_of (GetStats mask) = raw.GetStats mask
raw_of (ResetStats ack) = raw.ResetStats ack
raw_of (Shutdown force restart) = raw.Shutdown force restart
raw_of FwInfo = raw.FwInfo
raw_of (MotorEstop time) = raw.MotorEstop time

-- its bytes in a payload
abbrev pub bytes_of : Command → List ℕ
bytes_of command = sent.bytes_of (raw_of command)

abbrev pub size_of : Command → ℕ
size_of command = sent.size_in (sent.plain_of (raw_of command))
