-- `telemetry::no_stats` meets its contract: 0 is a zero of each kind, computed.
use borrow.Author.Rules.{rules}
use lib.Ieee.{of_int, of_bits, div}
use Rattle.floats.specs.Numbers.{over_scale}
use Rattle.packer.specs.Numbers.{signed_of}
use Rattle.telemetry.specs.Telemetry.{stats_of}
use Rattle.telemetry.proofs.no_stats.Goals as goal

pub returns : goal.returns
unfolding stats_of over_scale signed_of of_int of_bits div
returns c = search rules
