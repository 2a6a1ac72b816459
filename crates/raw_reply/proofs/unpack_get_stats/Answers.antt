-- `raw_reply::unpack_get_stats` meets its contract.
use Rattle.layout.specs.Layout.{raws}
use Rattle.raw_telemetry.proofs.Padded.{stats-padded}
use Rattle.raw_reply.specs.RawReply.{blank_raw, raw_as}
use Rattle.raw_reply.proofs.unpack_get_stats.Goals as goal

pub returns : goal.returns
unfolding blank_raw raw_as raws
returns c = simp (c.blank.ensures, c.stats_of.ensures, c.masked_fields-mask.ensures.mask, c.masked_fields-mask.ensures.numbers, stats-padded)
