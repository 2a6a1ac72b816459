-- `reply::unpack_get_stats` meets its contract.
use Rattle.layout.specs.Layout.{raws}
use Rattle.telemetry.proofs.Padded.{stats-padded}
use Rattle.reply.specs.Reply.{blank_of, get_stats_of}
use Rattle.reply.proofs.unpack_get_stats.Goals as goal

pub returns : goal.returns
unfolding blank_of get_stats_of raws
returns c = simp (c.blank.ensures, c.stats_of.ensures, c.masked_fields-mask.ensures.mask, c.masked_fields-mask.ensures.numbers, stats-padded)
