-- How many bytes a plain command has, and an arm of `raw_of`.
use mathlib.Core.Path.{◌≡◌}
use Prim.Native.Nat.{◌≤◌}
use lib.ListN.{length}
use Rattle.raw_command.specs.Commands.{plain_of}
use Rattle.raw_command.specs.declared.RawCommand.{RawCommand}
use Rattle.raw_command.proofs.Sizes as raw
use Rattle.command.specs.Commands.{raw_of, bytes_of, size_of}
use Rattle.command.specs.declared.Command.{Command}

-- the lengths that document 01 gives are those of the bytes, from one to five
pub sizes : (command : Command) → (length (bytes_of command) ≡ size_of command) × ((1 ≤ size_of command) × (size_of command ≤ 5))
sizes command = raw.sizes (plain_of (raw_of command))

-- what one arm of the match gives
pub arm : {command known : Command} {raw : RawCommand} → command ≡ known → raw ≡ raw_of known → raw ≡ raw_of command
arm is made = rw is made
