-- `reply::masked_fields` meets its contract.
use Rattle.layout.specs.Layout.{raw_of}
use Rattle.reply.proofs.masked_fields.Goals as goal

pub returns-clause-mask : goal.returns-clause-mask
unfolding raw_of
returns-clause-mask c = c.word_at-mask.ensures

pub returns-clause-numbers : goal.returns-clause-numbers
unfolding raw_of
returns-clause-numbers c = rw c.word_at-mask.ensures at c.unpack_fields.ensures
