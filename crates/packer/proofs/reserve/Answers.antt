-- `packer::reserve` meets its contract: an Option with a refusal in place of None.
use Rattle.packer.proofs.Places.{told-reserve}
use Rattle.packer.proofs.reserve.Goals as goal

pub returns-clause-answer : goal.returns-clause-answer
returns-clause-answer c = rw (c.ok_or.ensures.value, c.end_within.ensures) (told-reserve c.args.width c.args.buf.now c.args.pos)
