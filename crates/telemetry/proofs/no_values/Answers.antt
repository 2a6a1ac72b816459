-- `telemetry::no_values` meets its contract: 0 is a zero of each kind, computed.
use borrow.Author.Rules.{rules}
use lib.Ieee.{of_int, of_bits, div}
use Rattle.floats.specs.Numbers.{over_scale}
use Rattle.packer.specs.Numbers.{signed_of}
use Rattle.telemetry.specs.Telemetry.{values_with}
use Rattle.telemetry.proofs.no_values.Goals as goal

pub returns : goal.returns
unfolding values_with over_scale signed_of of_int of_bits div
returns c = search rules
