-- `encode::encode` meets its contract.
use mathlib.Core.Path.{refl}
use native.Mathlib.Omega.{arith}
use Rattle.frame.proofs.Wrapped.{payload-wrapped}
use Rattle.encode.specs.Payload.{payload_of}
use Rattle.raw_command.proofs.Packing.{never-refused}
use Rattle.encode.proofs.Frames.{too_long, too_small, framed}
use Rattle.command.proofs.Sizes.{sizes}
use Rattle.encode.proofs.Payloads.{payload-length}
use Rattle.encode.proofs.encode.Goals as goal

pub returns-then-hops-gt-HOPS_MAX : goal.returns-then-hops-gt-HOPS_MAX
returns-then-hops-gt-HOPS_MAX c =
    let s = c.args in
    too_long s.command s.hops.now s.buf.now (omega (arith, payload-length s.command s.hops.now, sizes s.command))

pub payload_len-len-requires : goal.payload_len-len-requires
payload_len-len-requires c = (omega arith, omega (arith, sizes c.args.command))

pub overflow_add-frame_len : goal.overflow_add-frame_len
overflow_add-frame_len c = omega (arith, sizes c.args.command)

pub returns-then-len-gt-PAYLOAD_MAX : goal.returns-then-len-gt-PAYLOAD_MAX
returns-then-len-gt-PAYLOAD_MAX c =
    let s = c.args in
    too_long s.command s.hops.now s.buf.now (omega (arith, payload-length s.command s.hops.now))

pub returns-then-buf-frame_len : goal.returns-then-buf-frame_len
returns-then-buf-frame_len c =
    let s = c.args in
    let n = payload-length s.command s.hops.now in
    too_small s.command s.hops.now s.buf.now (omega arith) (omega arith)

pub returns-in_err-pack_payload : goal.returns-in_err-pack_payload
returns-in_err-pack_payload c = never-refused (omega (arith, payload-length c.args.command c.args.hops.now)) c.in_err-pack_payload.ensures

pub returns : goal.returns
returns c =
    let s = c.args in
    let n = payload-length s.command s.hops.now in
    let both = payload-wrapped (payload_of s.command s.hops.now) (omega arith) (omega arith) c.in_ok-pack_payload.ensures (omega arith) c.wrap.ensures in
    framed s.command s.hops.now s.buf.now _ (omega arith) (omega arith) refl both.0 both.1
