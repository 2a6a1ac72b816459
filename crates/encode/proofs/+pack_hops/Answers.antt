-- `encode::pack_hops` meets its contract: no hop is left, or one is written and then the rest.
use mathlib.Core.Path.{◌≡◌}
use Prim.Native.Nat.{◌+◌}
use native.Mathlib.Omega.{arith}
use borrow.Author.Rules.{rules}
use Rattle.raw_command.proofs.Packing.{byte-room, byte-behind, never-refused}
use Rattle.encode.proofs.Payloads.{rest-length}
use Rattle.encode.proofs.Writes.{none, hop-packed}
use Rattle.encode.proofs.+pack_hops.Goals as goal

pub returns-in_default : goal.returns-in_default
returns-in_default t c = none c.args.hops.now _ _ c.in_default.len_below (omega arith)

pub unreachable-requires : goal.unreachable-requires
unreachable-requires t c = never-refused (byte-room _ _ _ (omega arith)) c.in_default-pack_u8.ensures

pub unreachable-requires-in_default-pack_u8-2 : goal.unreachable-requires-in_default-pack_u8-2
unreachable-requires-in_default-pack_u8-2 t c =
    let there : c.in-Ok.id_at ≡ c.args.pos + 1 = byte-behind _ (omega arith) c.in-Ok.ensures in
    never-refused (byte-room _ _ _ (omega arith)) c.in_default-pack_u8-2.ensures

pub pack_hops-requires : goal.pack_hops-requires
pack_hops-requires t c =
    let rest = rest-length c.args.hops.now c.in-len1-up.len_at_least in
    let there : c.in-Ok.id_at ≡ c.args.pos + 1 = byte-behind _ (omega arith) c.in-Ok.ensures in
    let next : c.in-Ok-pack_u8.next ≡ c.in-Ok.id_at + 1 = byte-behind _ (omega arith) c.in-Ok-pack_u8.ensures in
    (omega arith, omega arith)

pub returns : goal.returns
returns t c =
    hop-packed c.args.hops.now c.in-len1-up.len_at_least (search rules) (omega arith) c.in-Ok.ensures c.in-Ok-pack_u8.ensures c.pack_hops.ensures
