-- `reply::unpack_get_values` meets its contract.
use Rattle.layout.specs.Layout.{raw_of, raws}
use Rattle.telemetry.proofs.Padded.{values-padded}
use Rattle.reply.specs.Reply.{blank_of, get_values_of}
use Rattle.reply.proofs.unpack_get_values.Goals as goal

pub returns : goal.returns
unfolding blank_of get_values_of raws raw_of
returns c = simp (c.blank.ensures, c.values_of.ensures, c.unpack_fields-raw.ensures, values-padded)
