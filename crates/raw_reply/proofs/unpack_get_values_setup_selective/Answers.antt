-- `raw_reply::unpack_get_values_setup_selective` meets its contract.
use Rattle.layout.specs.Layout.{raws}
use Rattle.raw_telemetry.proofs.Padded.{setup-padded}
use Rattle.raw_reply.specs.RawReply.{blank_raw, raw_as}
use Rattle.raw_reply.proofs.unpack_get_values_setup_selective.Goals as goal

pub returns : goal.returns
unfolding blank_raw raw_as raws
returns c = simp (c.blank.ensures, c.setup_values_of.ensures, c.masked_fields-mask.ensures.mask, c.masked_fields-mask.ensures.numbers, setup-padded)
