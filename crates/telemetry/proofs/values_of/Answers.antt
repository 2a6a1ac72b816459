-- `telemetry::values_of` meets its contract: each field is its row's number, read.
use mathlib.Core.Path.{ap, ◌∙◌}
use lib.Ieee.{of_int, of_bits}
use Rattle.codes.specs.Codes.{fault_of}
use Rattle.packer.proofs.Complement.{called-i32}
use Rattle.telemetry.specs.Telemetry.{values_with, values_of}
use Rattle.telemetry.proofs.values_of.Goals as goal

pub returns : goal.returns
unfolding values_with values_of of_int of_bits
returns c =
    λ i.
    record {
      mask = c.args.mask;
      temp_mosfet = c.half_over.ensures i;
      temp_motor = c.half_over-2.ensures i;
      avg_current_motor = c.word_over.ensures i;
      avg_current_input = c.word_over-2.ensures i;
      avg_current_d = c.word_over-3.ensures i;
      avg_current_q = c.word_over-4.ensures i;
      duty_cycle = c.half_over-3.ensures i;
      rpm = c.word_over-5.ensures i;
      voltage_in = c.half_over-4.ensures i;
      amp_hours = c.word_over-6.ensures i;
      amp_hours_charged = c.word_over-7.ensures i;
      watt_hours = c.word_over-8.ensures i;
      watt_hours_charged = c.word_over-9.ensures i;
      tachometer = called-i32 _ _ c.as_i32.type_inv c.as_i32.ensures i;
      tachometer_abs = called-i32 _ _ c.as_i32-2.type_inv c.as_i32-2.ensures i;
      fault_code = (c.from.ensures ∙ ap fault_of c.one_byte.ensures) i;
      pid_pos = c.word_over-10.ensures i;
      controller_id = c.one_byte-2.ensures i;
      temp_mosfet1 = c.half_over-5.ensures i;
      temp_mosfet2 = c.half_over-6.ensures i;
      temp_mosfet3 = c.half_over-7.ensures i;
      avg_voltage_d = c.word_over-11.ensures i;
      avg_voltage_q = c.word_over-12.ensures i;
      status = c.one_byte-3.ensures i;
    }
