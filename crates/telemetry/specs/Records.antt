-- A telemetry record by the rows of its table: its mask, and the value of each row's field in the table's order.
use Rattle.std.specs.Prelude.{false, ◌≡◌, List, [], ◌∷◌, ℕ, ◌<◌, pos, length, get_or}
use Rattle.std.specs.Float.{nan}
use Rattle.codes.specs.declared.FaultCode.TheVariants as FaultCode
use Rattle.packer.specs.Numbers.{numbers_at}
use Rattle.tables.specs.Tables.{has_bit, widths}
use Rattle.tables.specs.Sorts.{table_of}
use Rattle.tables.specs.declared.Sort.{Sort}
use Rattle.telemetry.specs.Telemetry as Telemetry
use Rattle.telemetry.specs.Telemetry.{FieldValue, float, signed, unsigned, fault, entry, field_at, values_of, setup_values_of, stats_of, no_values, no_setup_values, no_stats}
use Rattle.telemetry.specs.declared.Values.{Values}
use Rattle.telemetry.specs.declared.SetupValues.{SetupValues}
use Rattle.telemetry.specs.declared.Stats.{Stats}

pub record ByTable : Type 0 where
  pub mask : ℕ
  pub fields : List FieldValue

abbrev pub values_by_table : Values → ByTable
values_by_table v =
    record {
      mask = v.mask;
      fields =
          float v.temp_mosfet
          ∷ float v.temp_motor
          ∷ float v.avg_current_motor
          ∷ float v.avg_current_input
          ∷ float v.avg_current_d
          ∷ float v.avg_current_q
          ∷ float v.duty_cycle
          ∷ float v.rpm
          ∷ float v.voltage_in
          ∷ float v.amp_hours
          ∷ float v.amp_hours_charged
          ∷ float v.watt_hours
          ∷ float v.watt_hours_charged
          ∷ signed v.tachometer
          ∷ signed v.tachometer_abs
          ∷ fault v.fault_code
          ∷ float v.pid_pos
          ∷ unsigned v.controller_id
          ∷ float v.temp_mosfet1
          ∷ float v.temp_mosfet2
          ∷ float v.temp_mosfet3
          ∷ float v.avg_voltage_d
          ∷ float v.avg_voltage_q
          ∷ unsigned v.status
          ∷ [];
    }

abbrev pub setup_by_table : SetupValues → ByTable
setup_by_table v =
    record {
      mask = v.mask;
      fields =
          float v.temp_mosfet
          ∷ float v.temp_motor
          ∷ float v.avg_current_motor
          ∷ float v.avg_current_input
          ∷ float v.duty_cycle
          ∷ float v.rpm
          ∷ float v.speed
          ∷ float v.voltage_in
          ∷ float v.battery_level
          ∷ float v.amp_hours
          ∷ float v.amp_hours_charged
          ∷ float v.watt_hours
          ∷ float v.watt_hours_charged
          ∷ float v.distance
          ∷ float v.distance_abs
          ∷ float v.pid_pos
          ∷ fault v.fault_code
          ∷ unsigned v.controller_id
          ∷ unsigned v.num_vescs
          ∷ float v.watt_hours_battery_left
          ∷ unsigned v.odometer
          ∷ unsigned v.uptime_ms
          ∷ [];
    }

abbrev pub stats_by_table : Stats → ByTable
stats_by_table v =
    record {
      mask = v.mask;
      fields =
          float v.speed_avg
          ∷ float v.speed_max
          ∷ float v.power_avg
          ∷ float v.power_max
          ∷ float v.current_avg
          ∷ float v.current_max
          ∷ float v.temp_mosfet_avg
          ∷ float v.temp_mosfet_max
          ∷ float v.temp_motor_avg
          ∷ float v.temp_motor_max
          ∷ float v.count_time
          ∷ [];
    }

-- the record of a sort, from a mask and raw numbers
abbrev pub record_of : Sort → ℕ → List ℕ → ByTable
record_of Sort.Values mask raws = values_by_table (values_of mask raws)
record_of Sort.SetupValues mask raws = setup_by_table (setup_values_of mask raws)
record_of Sort.Stats mask raws = stats_by_table (stats_of mask raws)

-- and with nothing in it
abbrev pub empty_record : Sort → ByTable
empty_record Sort.Values = values_by_table no_values
empty_record Sort.SetupValues = setup_by_table no_setup_values
empty_record Sort.Stats = stats_by_table no_stats

-- the value of a row's field. Past the last row stands a NaN, which is no zero, and near nothing
abbrev pub field_in : ByTable → ℕ → FieldValue
field_in r k = get_or r.fields k (float nan)

-- a value that is zero
abbrev pub Zero : FieldValue → Type 0
Zero (float x) = x ≡ Telemetry.zero
Zero (signed z) = z ≡ pos 0
Zero (unsigned n) = n ≡ 0
Zero (fault code) = code ≡ FaultCode.None

-- A record of a sort holds these bits as its mask, and the fields that they govern: the bytes of the fields begin at a place in s.
pub record RecordHolds (sort : Sort) (bits : ℕ) (s : List ℕ) (start : ℕ) (r : ByTable) : Type 0 where
  pub mask : r.mask ≡ bits
  -- every field is what its row in the table makes of the frame's bytes, as without the mask in the record
  pub fields : (k : ℕ) → k < length (table_of sort) → field_in r k ≡ field_at (table_of sort) (numbers_at (widths bits (table_of sort)) s start) k
  -- document 01: "An absent field is zero, a fault code None."
  pub absent : (k : ℕ) → k < length (table_of sort) → has_bit r.mask (entry (table_of sort) k).bit ≡ false → Zero (field_in r k)

pub record TelemetryRecords : Type 0 where
  -- a record that was read
  pub filled : (sort : Sort) (bits : ℕ) (s : List ℕ) (start : ℕ) → RecordHolds sort bits s start (record_of sort bits (numbers_at (widths bits (table_of sort)) s start))
  -- and one with nothing in it: its mask is 0, so every field is zero
  pub empty : (sort : Sort) (s : List ℕ) (start : ℕ) → RecordHolds sort 0 s start (empty_record sort)
