-- The bytes of payloads: how many there are, and how they come apart.
use mathlib.Core.Path.{◌≡◌, refl}
use mathlib.Core.List.{List, [], ◌∷◌}
use Prim.Native.Nat.{ℕ, ◌+◌, ◌-◌, ◌*◌, ◌≤◌, ◌<◌}
use native.Mathlib.Omega.{arith}
use lib.ListN.{length, take, drop, get_or, length-append}
use lib.Seq.{take_all}
use Rattle.format.specs.Format.{id_of}
use Rattle.format.specs.declared.CommandId.TheVariants.{ForwardCan}
use Rattle.command.specs.Commands.{bytes_of, size_of}
use Rattle.command.specs.declared.Command.{Command}
use Rattle.command.proofs.Sizes.{sizes}
use Rattle.encode.specs.Payload.{hop_bytes, payload_of}

-- ---- the hops: how many bytes they take
pub hops-length : (hops : List ℕ) → length (hop_bytes hops) ≡ 2 * length hops
unfolding hop_bytes
hops-length [] = refl
hops-length (id ∷ hops) = omega (arith, hops-length hops)

pub no-hops : (hops : List ℕ) → length hops < 1 → hop_bytes hops ≡ []
unfolding hop_bytes
no-hops [] none = refl
no-hops (id ∷ hops) none = absurd (omega arith)

-- the first of them, and the part behind it as it is lent
pub first-hop : (hops : List ℕ) → 1 ≤ length hops
    → hop_bytes hops ≡ id_of ForwardCan ∷ get_or hops 0 0 ∷ hop_bytes (take (length hops - 1) (drop 1 hops))
unfolding hop_bytes
first-hop [] some = absurd (omega arith)
first-hop (id ∷ hops) some = let all : take (length (id ∷ hops) - 1) hops ≡ hops = take_all (length (id ∷ hops) - 1) hops (omega arith) in rw all

pub rest-length : (hops : List ℕ) → 1 ≤ length hops → length (take (length hops - 1) (drop 1 hops)) ≡ length hops - 1
rest-length [] some = absurd (omega arith)
rest-length (id ∷ hops) some = let all : take (length (id ∷ hops) - 1) hops ≡ hops = take_all (length (id ∷ hops) - 1) hops (omega arith) in rw all (omega arith)

-- ---- the payload
pub payload-length : (command : Command) (hops : List ℕ) → length (payload_of command hops) ≡ 2 * length hops + size_of command
unfolding payload_of
payload-length command hops = omega (arith, length-append (hop_bytes hops) (bytes_of command), hops-length hops, (sizes command).0)
