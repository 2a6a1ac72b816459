-- Writing a plain command and reading it undo each other.
use Rattle.std.specs.Prelude.{◌≡◌, false, List, ℕ, ◌^◌, ◌≤◌, ◌<◌}
use Rattle.std.specs.Int.Signed.{mag}
use Rattle.refusals.specs.Refusals.{ok}
use Rattle.refusals.specs.OneAnswer.{ToldApart}
use Rattle.packer.specs.Nearness.{Bytes}
use Rattle.raw_command.specs.Commands.{Form, bare, flag, flags, half, word, signed, Value, form_of, width_of, Plain, plain_of, bytes_in}
use Rattle.raw_command.specs.Reading.{is_forward, plain_in, unpacked_command}

-- The numbers of a value fit their type, as those of every `RawCommand` of the code do: a command of the logic may hold any numbers
abbrev pub Fits : (form : Form) → Value form → Type 0
Fits bare none = Unit {0}
Fits flag set = Unit {0}
Fits flags both = Unit {0}
Fits half n = n < 2 ^ 16
Fits word n = n < 2 ^ 32
-- -2^31 to 2^31 - 1: `mag` of a negative z is -1 - z
Fits signed z = mag z < 2 ^ 31

pub record RawLaws : Type 0 where
  -- what is written is read
  pub written : (plain : Plain) → (is_forward plain.id ≡ false) → Fits (form_of plain.id) plain.value → plain_in (bytes_in plain) ≡ ok plain
  -- what is read is what is written, and fits
  pub read : (bytes : List ℕ) → Bytes bytes → (plain : Plain) → plain_in bytes ≡ ok plain
      → (bytes ≡ bytes_in plain) × (Fits (form_of plain.id) plain.value × (is_forward plain.id ≡ false))
  -- no plain command has more than five bytes
  pub narrow : (form : Form) → width_of form ≤ 4

pub record OneAnswer : Type 0 where
  pub plain : ToldApart plain_of
  pub unpack-command : ToldApart unpacked_command
