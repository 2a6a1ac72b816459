-- `reply::payload` meets its contract: by how much of the payload part is there.
use mathlib.Core.Path.{sym, ◌∙◌}
use Rattle.frame.proofs.Places.{payload-is}
use Rattle.reply.proofs.Parts.{part-none, part-there}
use Rattle.reply.proofs.payload.Goals as goal

pub returns-then-frame-lt-PAYLOAD_AT : goal.returns-then-frame-lt-PAYLOAD_AT
returns-then-frame-lt-PAYLOAD_AT c = part-none _ _ c.if-frame-lt-PAYLOAD_AT.true ∙ sym (payload-is _)

pub returns : goal.returns
returns c = rw (c.min-len.ensures, c.from.ensures) (part-there _ _) ∙ sym (payload-is _)
