-- `raw_command::pack_parts` meets its contract.
use mathlib.Core.Path.{◌≡◌}
use native.Mathlib.Omega.{arith}
use borrow.Author.Rules.{rules}
use Rattle.std.specs.Prelude.{Err}
use Rattle.packer.proofs.Places.{not_roomy}
use Rattle.raw_command.proofs.Packing.{byte-room, never-refused, parts-packed, parts-no-room}
use Rattle.raw_command.proofs.pack_parts.Goals as goal

pub returns-in_err-behind : goal.returns-in_err-behind
returns-in_err-behind c =
    let passed : c.from_residual.result ≡ Err c.in_err-behind.field-0.0 = search rules in
    let out = not_roomy c.in_err-behind.ensures.answer in
    rw passed (parts-no-room c.args.parts _ _ (omega (arith, out.lacks)) _ out.says)

pub returns-in_err-reserve : goal.returns-in_err-reserve
returns-in_err-reserve c =
    let passed : c.from_residual-in_err-reserve.result ≡ Err c.in_err-reserve.field-0.0 = search rules in
    let behind = c.in_ok-behind.ensures.inside in
    let out = not_roomy c.in_err-reserve.ensures.answer in
    rw passed (parts-no-room c.args.parts _ _ (omega (arith, behind.0, out.lacks)) _ out.says)

pub returns-in_err-pack_u8 : goal.returns-in_err-pack_u8
returns-in_err-pack_u8 c =
    let behind = c.in_ok-behind.ensures.inside in
    never-refused (byte-room c.args.parts.id c.args.buf.now c.args.pos (omega (arith, behind.0, behind.1))) c.in_err-pack_u8.ensures

pub returns : goal.returns
returns c =
    let ends = c.in_ok-reserve.ensures.inside in
    parts-packed c.args.parts (search rules) c.in_ok-behind.ensures.inside.0 (omega (arith, ends.0, ends.1)) c.in_ok-pack_u8.ensures c.pack_be.ensures
