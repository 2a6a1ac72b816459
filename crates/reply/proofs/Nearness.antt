-- The records that `decode` gives are near what the frame's own bytes hold.
use mathlib.Core.Path.{◌≡◌}
use mathlib.Core.List.{List}
use Prim.Native.Nat.{ℕ}
use Rattle.std.specs.Prelude.{Ok}
use Rattle.packer.specs.Nearness.{Bytes}
use Rattle.telemetry.proofs.Nearness.{record-near}
use Rattle.reply.specs.Decode.{decode_of, decoded}
use Rattle.reply.specs.Nearness.{RecordsNear}
use Rattle.reply.specs.declared.CommandReply.{CommandReply}
use Rattle.reply.proofs.Records.{decoded-told}

-- whatever `decode` returns of a slice, where that is a good frame
pub decoded-near : (s : List ℕ) → Bytes s → (count : ℕ) (reply : CommandReply) → decoded (Ok (count, reply)) ≡ decode_of s → RecordsNear s reply
decoded-near s bytes count reply is =
    let told = decoded-told s count reply is in
    record { kind = told.0; near = λ sort. record-near sort _ s _ _ bytes (told.1 sort) }
