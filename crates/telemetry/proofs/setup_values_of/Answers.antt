-- `telemetry::setup_values_of` meets its contract: each field is its row's number, read.
use mathlib.Core.Path.{ap, ◌∙◌}
use lib.Ieee.{of_int, of_bits}
use lib.ListN.{get_or}
use Rattle.codes.specs.Codes.{fault_of}
use Rattle.telemetry.specs.Telemetry.{setup_values_with, setup_values_of}
use Rattle.telemetry.proofs.setup_values_of.Goals as goal

pub returns : goal.returns
unfolding setup_values_with setup_values_of of_int of_bits
returns c =
    let raw = c.args.raw in
    λ i.
    record {
      mask = c.args.mask;
      temp_mosfet = c.half_over.ensures i;
      temp_motor = c.half_over-2.ensures i;
      avg_current_motor = c.word_over.ensures i;
      avg_current_input = c.word_over-2.ensures i;
      duty_cycle = c.half_over-3.ensures i;
      rpm = c.word_over-3.ensures i;
      speed = c.word_over-4.ensures i;
      voltage_in = c.half_over-4.ensures i;
      battery_level = c.half_over-5.ensures i;
      amp_hours = c.word_over-5.ensures i;
      amp_hours_charged = c.word_over-6.ensures i;
      watt_hours = c.word_over-7.ensures i;
      watt_hours_charged = c.word_over-8.ensures i;
      distance = c.word_over-9.ensures i;
      distance_abs = c.word_over-10.ensures i;
      pid_pos = c.word_over-11.ensures i;
      fault_code = (c.from.ensures ∙ ap fault_of c.one_byte.ensures) i;
      controller_id = c.one_byte-2.ensures i;
      num_vescs = c.one_byte-3.ensures i;
      watt_hours_battery_left = c.word_over-12.ensures i;
      odometer = get_or raw 20 0;
      uptime_ms = get_or raw 21 0;
    }
