-- A `CommandReply` from a raw reply: each record by its own numbers.
use Rattle.telemetry.proofs.Padded.{values-padded, setup-padded, stats-padded}
use Rattle.raw_reply.specs.RawReply.{reply_from}
use Rattle.raw_reply.proofs.CommandReplyFromRawReply.from.Goals as goal

pub returns : goal.returns
unfolding reply_from
returns c =
    simp (
      c.values_of.ensures,
      c.values_numbers.ensures,
      values-padded,
      c.setup_values_of.ensures,
      c.setup_values_numbers.ensures,
      setup-padded,
      c.stats_of.ensures,
      c.stats_numbers.ensures,
      stats-padded,
      c.from.ensures,
    )
