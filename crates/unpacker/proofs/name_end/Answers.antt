-- `name_end` meets its contract.
use native.Mathlib.Omega.{arith}
use Rattle.unpacker.proofs.Places.{name-room, ends-after-room, ends-at-end}
use Rattle.unpacker.proofs.name_end.Goals as goal

pub overflow_add-result : goal.overflow_add-result
overflow_add-result c =
    let seen = name-room c.args.room c.args.buf.now c.args.pos c.args.error c.requires c.in_default.not-IncompleteData in
    omega arith

pub returns-in-IncompleteData : goal.returns-in-IncompleteData
returns-in-IncompleteData c = rw (c.max.ensures, c.in-IncompleteData.is) (ends-at-end c.args.room c.args.buf.now c.args.pos)

pub returns-in_default : goal.returns-in_default
returns-in_default c = ends-after-room c.args.room c.args.buf.now c.args.pos c.args.error c.requires c.in_default.not-IncompleteData
