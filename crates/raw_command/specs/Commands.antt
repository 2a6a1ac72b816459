-- Plain commands with whole numbers, each described once, for writing and for reading: document 01, "Commands". Ids as in the Rust's `CommandId`.
use Rattle.std.specs.Prelude.{Bool, true, false, ◌≡◌, List, ◌∷◌, ℕ, ◌+◌, ◌*◌, ◌^◌, ◌≤◌, ◌<◌, ℤ}
use Rattle.format.specs.Format.{id_of}
use Rattle.format.specs.declared.CommandId.{CommandId}
use Rattle.format.specs.declared.CommandId.TheVariants as id
use Rattle.packer.specs.Numbers.{big_endian, unsigned_of}
use Rattle.raw_command.specs.declared.Parts.{Parts}
use Rattle.raw_command.specs.declared.RawCommand.{RawCommand}
use Rattle.raw_command.specs.declared.RawCommand.TheVariants.{FwVersion, GetValues, SetDuty, SetCurrent, SetCurrentBrake, SetRpm, SetPos, SetHandbrake}
use Rattle.raw_command.specs.declared.RawCommand.TheVariants.{Reboot, Alive, GetValuesSelective, GetValuesSetupSelective, SetCurrentRel, SetOdometer}
use Rattle.raw_command.specs.declared.RawCommand.TheVariants.{GetStats, ResetStats, Shutdown, FwInfo, MotorEstop}

-- 1. What follows an id, its form: nothing, a flag, two flags, a number of 16 bits, or one of 32, unsigned or signed.

pub data Form : Type 0 where
  bare : Form
  flag : Form
  flags : Form
  half : Form
  word : Form
  signed : Form

-- "One byte: FwVersion, GetValues, Reboot, Alive, FwInfo. Id and four bytes: the six scaled ones, SetRpm, SetOdometer, both selective queries.
-- Three bytes: GetStats, MotorEstop, Shutdown (two flags as 0 or 1). Two: ResetStats."
abbrev pub form_of : CommandId → Form
form_of id.FwVersion = bare
form_of id.GetValues = bare
form_of id.SetDuty = signed
form_of id.SetCurrent = signed
form_of id.SetCurrentBrake = signed
form_of id.SetRpm = signed
form_of id.SetPos = signed
form_of id.SetHandbrake = signed
form_of id.Reboot = bare
form_of id.Alive = bare
-- no plain command: the rest of the payload follows
form_of id.ForwardCan = bare
form_of id.GetValuesSelective = word
form_of id.GetValuesSetupSelective = word
form_of id.SetCurrentRel = signed
form_of id.SetOdometer = word
-- "the command's own mask is 16 bits"
form_of id.GetStats = half
form_of id.ResetStats = flag
form_of id.Shutdown = flags
form_of id.FwInfo = bare
form_of id.MotorEstop = half

-- what a command of a form carries
abbrev pub Value : Form → Type 0
Value bare = Unit {0}
Value flag = Bool
Value flags = Bool × Bool
Value half = ℕ
Value word = ℕ
Value signed = ℤ

-- "two flags as 0 or 1"
abbrev pub flag_byte : Bool → ℕ
flag_byte true = 1
flag_byte false = 0

-- as one number: two flags are a byte each of it
abbrev pub number_of : (form : Form) → Value form → ℕ
number_of bare none = 0
number_of flag set = flag_byte set
number_of flags (first, second) = flag_byte first * 256 + flag_byte second
number_of half n = n
number_of word n = n
number_of signed z = unsigned_of (256 ^ 4) z

-- in so many bytes
abbrev pub width_of : Form → ℕ
width_of bare = 0
width_of flag = 1
width_of flags = 2
width_of half = 2
width_of word = 4
width_of signed = 4

-- none of which is above this
abbrev pub most_of : Form → ℕ
most_of bare = 255
most_of flag = 1
most_of flags = 1
most_of half = 255
most_of word = 255
most_of signed = 255

-- 2. A plain command: its id, and what it carries.

pub record Plain : Type 0 where
  pub id : CommandId
  pub value : Value (form_of id)

abbrev pub plain_of : RawCommand → Plain
plain_of FwVersion = record { id = id.FwVersion; value = tt }
plain_of GetValues = record { id = id.GetValues; value = tt }
plain_of (SetDuty duty) = record { id = id.SetDuty; value = duty }
plain_of (SetCurrent current) = record { id = id.SetCurrent; value = current }
plain_of (SetCurrentBrake current) = record { id = id.SetCurrentBrake; value = current }
plain_of (SetRpm rpm) = record { id = id.SetRpm; value = rpm }
plain_of (SetPos position) = record { id = id.SetPos; value = position }
plain_of (SetHandbrake current) = record { id = id.SetHandbrake; value = current }
plain_of Reboot = record { id = id.Reboot; value = tt }
plain_of Alive = record { id = id.Alive; value = tt }
plain_of (GetValuesSelective mask) = record { id = id.GetValuesSelective; value = mask }
plain_of (GetValuesSetupSelective mask) = record { id = id.GetValuesSetupSelective; value = mask }
plain_of (SetCurrentRel current) = record { id = id.SetCurrentRel; value = current }
plain_of (SetOdometer odometer) = record { id = id.SetOdometer; value = odometer }
plain_of (GetStats mask) = record { id = id.GetStats; value = mask }
plain_of (ResetStats ack) = record { id = id.ResetStats; value = ack }
plain_of (Shutdown force restart) = record { id = id.Shutdown; value = (force, restart) }
plain_of FwInfo = record { id = id.FwInfo; value = tt }
plain_of (MotorEstop time) = record { id = id.MotorEstop; value = time }

-- 3. What is written of it: the id, and the number in so many bytes.

module _ (plain : Plain) where
  abbrev pub id_in : ℕ
  id_in = id_of plain.id

  abbrev pub width_in : ℕ
  width_in = width_of (form_of plain.id)

  abbrev pub number_in : ℕ
  number_in = number_of (form_of plain.id) plain.value

  abbrev pub bytes_in : List ℕ
  bytes_in = id_in ∷ big_endian width_in number_in

  abbrev pub size_in : ℕ
  size_in = 1 + width_in

abbrev pub bytes_of : RawCommand → List ℕ
bytes_of command = bytes_in (plain_of command)

-- these parts are the command's, and the bytes that are written are enough for the number
pub record PartsIs (command : RawCommand) (r : Parts) : Type 0 where
  pub id : r.id ≡ id_in (plain_of command)
  pub width : r.width ≡ width_in (plain_of command)
  pub number : r.number ≡ number_in (plain_of command)
  pub narrow : r.width ≤ 4
  pub below : r.number < 256 ^ r.width

-- the bytes of any parts
abbrev pub parts_bytes : Parts → List ℕ
parts_bytes parts = parts.id ∷ big_endian parts.width parts.number
