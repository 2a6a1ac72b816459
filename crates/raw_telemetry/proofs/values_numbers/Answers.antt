-- `raw_telemetry::values_numbers` meets its contract: the number of each row.
use mathlib.Core.List.{[], ◌∷◌}
use native.Mathlib.Omega.{arith}
use Rattle.tables.specs.Rows.{padded}
use Rattle.raw_telemetry.specs.Rows.{numbers_of}
use Rattle.raw_telemetry.proofs.Needs.{sent-half, sent_word}
use Rattle.raw_telemetry.proofs.values_numbers.Goals as goal

pub returns : goal.returns
unfolding padded numbers_of
returns c =
    let v = c.args.values in
    λ i.
    sent-half v.temp_mosfet (omega arith) c.as_u16.ensures i
    ∷ sent-half v.temp_motor (omega arith) c.as_u16-2.ensures i
    ∷ sent_word v.avg_current_motor (omega arith) c.as_u32.ensures i
    ∷ sent_word v.avg_current_input (omega arith) c.as_u32-2.ensures i
    ∷ sent_word v.avg_current_d (omega arith) c.as_u32-3.ensures i
    ∷ sent_word v.avg_current_q (omega arith) c.as_u32-4.ensures i
    ∷ sent-half v.duty_cycle (omega arith) c.as_u16-3.ensures i
    ∷ sent_word v.rpm (omega arith) c.as_u32-5.ensures i
    ∷ sent-half v.voltage_in (omega arith) c.as_u16-4.ensures i
    ∷ sent_word v.amp_hours (omega arith) c.as_u32-6.ensures i
    ∷ sent_word v.amp_hours_charged (omega arith) c.as_u32-7.ensures i
    ∷ sent_word v.watt_hours (omega arith) c.as_u32-8.ensures i
    ∷ sent_word v.watt_hours_charged (omega arith) c.as_u32-9.ensures i
    ∷ sent_word v.tachometer (omega arith) c.as_u32-10.ensures i
    ∷ sent_word v.tachometer_abs (omega arith) c.as_u32-11.ensures i
    ∷ v.fault_code
    ∷ sent_word v.pid_pos (omega arith) c.as_u32-12.ensures i
    ∷ v.controller_id
    ∷ sent-half v.temp_mosfet1 (omega arith) c.as_u16-5.ensures i
    ∷ sent-half v.temp_mosfet2 (omega arith) c.as_u16-6.ensures i
    ∷ sent-half v.temp_mosfet3 (omega arith) c.as_u16-7.ensures i
    ∷ sent_word v.avg_voltage_d (omega arith) c.as_u32-13.ensures i
    ∷ sent_word v.avg_voltage_q (omega arith) c.as_u32-14.ensures i
    ∷ v.status
    ∷ []
