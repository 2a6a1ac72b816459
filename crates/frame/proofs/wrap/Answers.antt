-- `frame::wrap` meets its contract: the room is tested before the first write, so none of them is refused.
use native.Mathlib.Omega.{arith}
use Rattle.frame.proofs.Wrapped.{not-refused, wrapped}
use Rattle.frame.proofs.wrap.Goals as goal

pub returns-in_err-pack_u8 : goal.returns-in_err-pack_u8
returns-in_err-pack_u8 c = absurd (not-refused 1 _ _ (omega arith) c.in_err-pack_u8.ensures)

pub returns-in_err-pack_u8-2 : goal.returns-in_err-pack_u8-2
returns-in_err-pack_u8-2 c = absurd (not-refused 1 _ _ (omega arith) c.in_err-pack_u8-2.ensures)

pub returns-in_err-pack_u16 : goal.returns-in_err-pack_u16
returns-in_err-pack_u16 c = absurd (not-refused 2 _ _ (omega arith) c.in_err-pack_u16.ensures)

pub returns : goal.returns
returns c =
    let s = c.args in
    wrapped s.len s.buf.now (omega arith) (omega arith) c.pack_u8.ensures c.pack_u8-2.ensures
    c.pack_u16.ensures c.pack_u8-3.ensures c.checksum-sum.ensures
