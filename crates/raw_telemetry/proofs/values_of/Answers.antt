-- `raw_telemetry::values_of` meets its contract: each field is its row's number, read.
use Rattle.packer.proofs.Complement.{called-i32}
use Rattle.raw_telemetry.specs.Rows.{rows_from}
use Rattle.raw_telemetry.specs.Records.{raw_values_of}
use Rattle.raw_telemetry.proofs.Needs.{called-half}
use Rattle.raw_telemetry.proofs.values_of.Goals as goal

pub returns : goal.returns
unfolding raw_values_of rows_from
returns c =
    λ i.
    record {
      mask = c.args.mask;
      temp_mosfet = called-half c.half.type_inv c.half.ensures i;
      temp_motor = called-half c.half-2.type_inv c.half-2.ensures i;
      avg_current_motor = called-i32 _ _ c.as_i32.type_inv c.as_i32.ensures i;
      avg_current_input = called-i32 _ _ c.as_i32-2.type_inv c.as_i32-2.ensures i;
      avg_current_d = called-i32 _ _ c.as_i32-3.type_inv c.as_i32-3.ensures i;
      avg_current_q = called-i32 _ _ c.as_i32-4.type_inv c.as_i32-4.ensures i;
      duty_cycle = called-half c.half-3.type_inv c.half-3.ensures i;
      rpm = called-i32 _ _ c.as_i32-5.type_inv c.as_i32-5.ensures i;
      voltage_in = called-half c.half-4.type_inv c.half-4.ensures i;
      amp_hours = called-i32 _ _ c.as_i32-6.type_inv c.as_i32-6.ensures i;
      amp_hours_charged = called-i32 _ _ c.as_i32-7.type_inv c.as_i32-7.ensures i;
      watt_hours = called-i32 _ _ c.as_i32-8.type_inv c.as_i32-8.ensures i;
      watt_hours_charged = called-i32 _ _ c.as_i32-9.type_inv c.as_i32-9.ensures i;
      tachometer = called-i32 _ _ c.as_i32-10.type_inv c.as_i32-10.ensures i;
      tachometer_abs = called-i32 _ _ c.as_i32-11.type_inv c.as_i32-11.ensures i;
      fault_code = c.one_byte.ensures i;
      pid_pos = called-i32 _ _ c.as_i32-12.type_inv c.as_i32-12.ensures i;
      controller_id = c.one_byte-2.ensures i;
      temp_mosfet1 = called-half c.half-5.type_inv c.half-5.ensures i;
      temp_mosfet2 = called-half c.half-6.type_inv c.half-6.ensures i;
      temp_mosfet3 = called-half c.half-7.type_inv c.half-7.ensures i;
      avg_voltage_d = called-i32 _ _ c.as_i32-13.type_inv c.as_i32-13.ensures i;
      avg_voltage_q = called-i32 _ _ c.as_i32-14.type_inv c.as_i32-14.ensures i;
      status = c.one_byte-3.ensures i;
    }
