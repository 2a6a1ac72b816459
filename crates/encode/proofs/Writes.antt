-- A hop and a payload as writes that follow each other, where there is room for all of them.
use mathlib.Core.List.{List, [], ◌∷◌}
use Prim.Native.Nat.{ℕ, ◌+◌, ◌-◌, ◌*◌, ◌≤◌, ◌<◌}
use native.Mathlib.Omega.{arith}
use lib.ListN.{length, take, drop, get_or}
use Rattle.std.specs.Prelude.{Result, Ok}
use Rattle.refusals.specs.declared.EncodeError.{EncodeError}
use Rattle.command.specs.Commands.{bytes_of, size_of}
use Rattle.command.specs.declared.Command.{Command}
use Rattle.format.specs.Format.{id_of}
use Rattle.format.specs.declared.CommandId.TheVariants.{ForwardCan}
use Rattle.packer.specs.Numbers.{big_endian}
use Rattle.packer.specs.Packing.{PackIs}
use Rattle.packer.proofs.Writes.{byte, none-packed}
use Rattle.raw_command.proofs.Packing.{then}
use Rattle.encode.specs.Payload.{hop_bytes, payload_of}
use Rattle.encode.proofs.Payloads.{hops-length, no-hops, first-hop, rest-length, payload-length}

-- no hop
pub none : (hops l : List ℕ) (at : ℕ) → length hops < 1 → at ≤ length l → PackIs (hop_bytes hops) l at (Ok at) l
none hops l at empty room = rw (no-hops hops empty) (none-packed l at room)

-- a hop, and those behind it
pub hop-packed
    : {l m n after : List ℕ} {at id_at next : ℕ} {s : Result ℕ EncodeError} (hops : List ℕ) → 1 ≤ length hops → get_or hops 0 0 < 256
    → at + 2 * length hops ≤ length l → PackIs (big_endian 1 (id_of ForwardCan)) l at (Ok id_at) m → PackIs (big_endian 1 (get_or hops 0 0)) m id_at (Ok next) n
    → PackIs (hop_bytes (take (length hops - 1) (drop 1 hops))) n next s after → PackIs (hop_bytes hops) l at s after
hop-packed {l} {m} {n} {after} {at} {id_at} {next} {s} hops some small room one two rest =
    let size = hops-length (take (length hops - 1) (drop 1 hops)) in
    let left = rest-length hops some in
    let front : PackIs (id_of ForwardCan ∷ get_or hops 0 0 ∷ []) l at (Ok next) n =
    then {p = id_of ForwardCan ∷ []} {q = get_or hops 0 0 ∷ []} (omega arith) (rw (byte (id_of ForwardCan) (omega arith)) at one) (rw (byte (get_or hops 0 0) small) at two) in
    rw (first-hop hops some) (then {p = id_of ForwardCan ∷ get_or hops 0 0 ∷ []} {q = hop_bytes (take (length hops - 1) (drop 1 hops))} (omega arith) front rest)

-- the hops, and then the command
pub payload-packed
    : {l m after : List ℕ} {at mid : ℕ} {s : Result ℕ EncodeError} (command : Command) (hops : List ℕ) → at + (2 * length hops + size_of command) ≤ length l
    → PackIs (hop_bytes hops) l at (Ok mid) m → PackIs (bytes_of command) m mid s after → PackIs (payload_of command hops) l at s after
unfolding payload_of
payload-packed command hops room f g = then (omega (arith, payload-length command hops)) f g
