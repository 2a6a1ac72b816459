-- `reply::unpack_get_values_selective` meets its contract.
use Rattle.layout.specs.Layout.{raws}
use Rattle.telemetry.proofs.Padded.{values-padded}
use Rattle.reply.specs.Reply.{blank_of, get_values_selective_of}
use Rattle.reply.proofs.unpack_get_values_selective.Goals as goal

pub returns : goal.returns
unfolding blank_of get_values_selective_of raws
returns c = simp (c.blank.ensures, c.values_of.ensures, c.masked_fields-mask.ensures.mask, c.masked_fields-mask.ensures.numbers, values-padded)
