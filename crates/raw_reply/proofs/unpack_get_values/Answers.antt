-- `raw_reply::unpack_get_values` meets its contract.
use Rattle.layout.specs.Layout.{raw_of, raws}
use Rattle.raw_telemetry.proofs.Padded.{values-padded}
use Rattle.raw_reply.specs.RawReply.{blank_raw, raw_as}
use Rattle.raw_reply.proofs.unpack_get_values.Goals as goal

pub returns : goal.returns
unfolding blank_raw raw_as raws raw_of
returns c = simp (c.blank.ensures, c.values_of.ensures, c.unpack_fields-raw.ensures, values-padded)
