-- `raw_telemetry::setup_values_of` meets its contract: each field is its row's number, read.
use lib.ListN.{get_or}
use Rattle.packer.proofs.Complement.{called-i32}
use Rattle.raw_telemetry.specs.Rows.{rows_from}
use Rattle.raw_telemetry.specs.Records.{raw_setup_values_of}
use Rattle.raw_telemetry.proofs.Needs.{called-half}
use Rattle.raw_telemetry.proofs.setup_values_of.Goals as goal

pub returns : goal.returns
unfolding raw_setup_values_of rows_from
returns c =
    λ i.
    record {
      mask = c.args.mask;
      temp_mosfet = called-half c.half.type_inv c.half.ensures i;
      temp_motor = called-half c.half-2.type_inv c.half-2.ensures i;
      avg_current_motor = called-i32 _ _ c.as_i32.type_inv c.as_i32.ensures i;
      avg_current_input = called-i32 _ _ c.as_i32-2.type_inv c.as_i32-2.ensures i;
      duty_cycle = called-half c.half-3.type_inv c.half-3.ensures i;
      rpm = called-i32 _ _ c.as_i32-3.type_inv c.as_i32-3.ensures i;
      speed = called-i32 _ _ c.as_i32-4.type_inv c.as_i32-4.ensures i;
      voltage_in = called-half c.half-4.type_inv c.half-4.ensures i;
      battery_level = called-half c.half-5.type_inv c.half-5.ensures i;
      amp_hours = called-i32 _ _ c.as_i32-5.type_inv c.as_i32-5.ensures i;
      amp_hours_charged = called-i32 _ _ c.as_i32-6.type_inv c.as_i32-6.ensures i;
      watt_hours = called-i32 _ _ c.as_i32-7.type_inv c.as_i32-7.ensures i;
      watt_hours_charged = called-i32 _ _ c.as_i32-8.type_inv c.as_i32-8.ensures i;
      distance = called-i32 _ _ c.as_i32-9.type_inv c.as_i32-9.ensures i;
      distance_abs = called-i32 _ _ c.as_i32-10.type_inv c.as_i32-10.ensures i;
      pid_pos = called-i32 _ _ c.as_i32-11.type_inv c.as_i32-11.ensures i;
      fault_code = c.one_byte.ensures i;
      controller_id = c.one_byte-2.ensures i;
      num_vescs = c.one_byte-3.ensures i;
      watt_hours_battery_left = called-i32 _ _ c.as_i32-12.type_inv c.as_i32-12.ensures i;
      odometer = get_or c.args.raw 20 0;
      uptime_ms = get_or c.args.raw 21 0;
    }
