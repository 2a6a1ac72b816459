-- `telemetry::stats_of` meets its contract: each field is its row's number, read.
use Rattle.telemetry.specs.Telemetry.{stats_of}
use Rattle.telemetry.proofs.stats_of.Goals as goal

pub returns : goal.returns
unfolding stats_of
returns c =
    λ i.
    record {
      mask = c.args.mask;
      speed_avg = c.f32_from_bits.ensures i;
      speed_max = c.f32_from_bits-2.ensures i;
      power_avg = c.f32_from_bits-3.ensures i;
      power_max = c.f32_from_bits-4.ensures i;
      current_avg = c.f32_from_bits-5.ensures i;
      current_max = c.f32_from_bits-6.ensures i;
      temp_mosfet_avg = c.f32_from_bits-7.ensures i;
      temp_mosfet_max = c.f32_from_bits-8.ensures i;
      temp_motor_avg = c.f32_from_bits-9.ensures i;
      temp_motor_max = c.f32_from_bits-10.ensures i;
      count_time = c.f32_from_bits-11.ensures i;
    }
