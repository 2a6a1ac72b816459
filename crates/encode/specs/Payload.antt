-- A command behind its hops as a payload: document 01, "Commands".
use Rattle.std.specs.Prelude.{List, [], ◌∷◌, ◌++◌, ℕ}
use Rattle.format.specs.Format.{id_of}
use Rattle.format.specs.declared.CommandId.TheVariants.{ForwardCan}
use Rattle.command.specs.Commands.{bytes_of}
use Rattle.command.specs.declared.Command.{Command}

-- "Each forwarding hop puts 34 and a controller id in front of the rest."
unfoldable pub hop_bytes : List ℕ → List ℕ
hop_bytes [] = []
hop_bytes (id ∷ hops) = id_of ForwardCan ∷ id ∷ hop_bytes hops

-- the payload of a command behind its hops, the first hop first
unfoldable pub payload_of : Command → List ℕ → List ℕ
payload_of command hops = hop_bytes hops ++ bytes_of command
