-- `raw_telemetry::stats_of` meets its contract: each field is its row's number, read.
use lib.ListN.{get_or}
use Rattle.raw_telemetry.specs.Rows.{rows_from}
use Rattle.raw_telemetry.specs.Records.{raw_stats_of}
use Rattle.raw_telemetry.proofs.stats_of.Goals as goal

pub returns : goal.returns
unfolding raw_stats_of rows_from
returns c =
    λ i.
    record {
      mask = c.args.mask;
      speed_avg = get_or c.args.raw 0 0;
      speed_max = get_or c.args.raw 1 0;
      power_avg = get_or c.args.raw 2 0;
      power_max = get_or c.args.raw 3 0;
      current_avg = get_or c.args.raw 4 0;
      current_max = get_or c.args.raw 5 0;
      temp_mosfet_avg = get_or c.args.raw 6 0;
      temp_mosfet_max = get_or c.args.raw 7 0;
      temp_motor_avg = get_or c.args.raw 8 0;
      temp_motor_max = get_or c.args.raw 9 0;
      count_time = get_or c.args.raw 10 0;
    }
