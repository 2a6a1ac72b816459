-- `raw_telemetry::no_setup_values` meets its contract: 0 is the zero of each kind, computed.
use borrow.Author.Rules.{rules}
use Rattle.packer.specs.Numbers.{signed_of}
use Rattle.raw_telemetry.specs.Rows.{rows_from}
use Rattle.raw_telemetry.specs.Records.{raw_setup_values_of, no_raw_setup_values}
use Rattle.raw_telemetry.proofs.no_setup_values.Goals as goal

pub returns : goal.returns
unfolding no_raw_setup_values raw_setup_values_of rows_from signed_of
returns c = search rules
