-- `raw_telemetry::no_stats` meets its contract: 0 is the zero of each kind, computed.
use borrow.Author.Rules.{rules}
use Rattle.raw_telemetry.specs.Rows.{rows_from}
use Rattle.raw_telemetry.specs.Records.{raw_stats_of, no_raw_stats}
use Rattle.raw_telemetry.proofs.no_stats.Goals as goal

pub returns : goal.returns
unfolding no_raw_stats raw_stats_of rows_from
returns c = search rules
