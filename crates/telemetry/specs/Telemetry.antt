-- The telemetry records, document 01, "Reply fields": each field by its entry in the table, from the raw numbers of the table's fields. The mask is document
-- 02's, W1: "Put the mask as received, unknown bits too, into the telemetry records".
use Rattle.std.specs.Prelude.{ℕ, ◌%◌, List, [], ℤ, pos, Float, get_or}
use Rattle.std.specs.Float.{binary32}
use Rattle.std.specs.Float.Ieee.{of_int, of_bits}
use Rattle.floats.specs.Numbers.{over_scale}
use Rattle.packer.specs.Numbers.{signed_of}
use Rattle.tables.specs.Tables.{Coding, h, w, i, u, b, fault_byte, F, Field, field, values_table, setup_table, stats_table}
use Rattle.codes.specs.Codes.{fault_of}
use Rattle.codes.specs.declared.FaultCode.{FaultCode}
use Rattle.telemetry.specs.declared.Values.{Values}
use Rattle.telemetry.specs.declared.SetupValues.{SetupValues}
use Rattle.telemetry.specs.declared.Stats.{Stats}

abbrev pub zero : Float
zero = of_bits binary32 0

-- a field's value
pub data FieldValue : Type 0 where
  float : Float → FieldValue
  signed : ℤ → FieldValue
  unsigned : ℕ → FieldValue
  fault : FaultCode → FieldValue

-- the value that a raw number stands for: "h_s is a signed 16-bit number over S, w_s a signed 32-bit number over S, i and u signed and unsigned 32-bit, b a byte,
-- F a binary32 by its bits"
abbrev pub value_by : Coding → ℕ → FieldValue
value_by (h scale) raw = float (over_scale (signed_of 65536 (raw % 65536)) (of_int binary32 (pos scale)))
value_by (w scale) raw = float (over_scale (signed_of 4294967296 raw) (of_int binary32 (pos scale)))
value_by i raw = signed (signed_of 4294967296 raw)
value_by u raw = unsigned raw
value_by b raw = unsigned (raw % 256)
value_by fault_byte raw = fault (fault_of (raw % 256))
value_by F raw = float (of_bits binary32 raw)

-- the entry at a place of a table
abbrev pub entry : List Field → ℕ → Field
entry table k = get_or table k (field 0 b)

-- the value of the field at a place, by its entry and its raw number
abbrev pub field_at : List Field → List ℕ → ℕ → FieldValue
field_at table raws k = value_by (entry table k).coding (get_or raws k 0)

-- what is in a value; zero, or None, is a filler where it is one of the others
abbrev pub float_in : FieldValue → Float
float_in (float x) = x
float_in (signed z) = zero
float_in (unsigned n) = zero
float_in (fault code) = zero

abbrev pub signed_in : FieldValue → ℤ
signed_in (float x) = pos 0
signed_in (signed z) = z
signed_in (unsigned n) = pos 0
signed_in (fault code) = pos 0

abbrev pub unsigned_in : FieldValue → ℕ
unsigned_in (float x) = 0
unsigned_in (signed z) = 0
unsigned_in (unsigned n) = n
unsigned_in (fault code) = 0

abbrev pub fault_in : FieldValue → FaultCode
fault_in (float x) = FaultCode.None
fault_in (signed z) = FaultCode.None
fault_in (unsigned n) = FaultCode.None
fault_in (fault code) = code

abbrev pub float_field : List Field → List ℕ → ℕ → Float
float_field table raws k = float_in (field_at table raws k)

abbrev pub signed_field : List Field → List ℕ → ℕ → ℤ
signed_field table raws k = signed_in (field_at table raws k)

abbrev pub unsigned_field : List Field → List ℕ → ℕ → ℕ
unsigned_field table raws k = unsigned_in (field_at table raws k)

abbrev pub fault_field : List Field → List ℕ → ℕ → FaultCode
fault_field table raws k = fault_in (field_at table raws k)

-- GetValues and GetValuesSelective
unfoldable pub values_with : ℕ → FaultCode → List ℕ → Values
values_with mask code raws =
    record {
      mask = mask;
      temp_mosfet = float_field values_table raws 0;
      temp_motor = float_field values_table raws 1;
      avg_current_motor = float_field values_table raws 2;
      avg_current_input = float_field values_table raws 3;
      avg_current_d = float_field values_table raws 4;
      avg_current_q = float_field values_table raws 5;
      duty_cycle = float_field values_table raws 6;
      rpm = float_field values_table raws 7;
      voltage_in = float_field values_table raws 8;
      amp_hours = float_field values_table raws 9;
      amp_hours_charged = float_field values_table raws 10;
      watt_hours = float_field values_table raws 11;
      watt_hours_charged = float_field values_table raws 12;
      tachometer = signed_field values_table raws 13;
      tachometer_abs = signed_field values_table raws 14;
      fault_code = code;
      pid_pos = float_field values_table raws 16;
      controller_id = unsigned_field values_table raws 17;
      temp_mosfet1 = float_field values_table raws 18;
      temp_mosfet2 = float_field values_table raws 19;
      temp_mosfet3 = float_field values_table raws 20;
      avg_voltage_d = float_field values_table raws 21;
      avg_voltage_q = float_field values_table raws 22;
      status = unsigned_field values_table raws 23;
    }

unfoldable pub values_of : ℕ → List ℕ → Values
values_of mask raws = values_with mask (fault_field values_table raws 15) raws

-- GetValuesSetupSelective
unfoldable pub setup_values_with : ℕ → FaultCode → List ℕ → SetupValues
setup_values_with mask code raws =
    record {
      mask = mask;
      temp_mosfet = float_field setup_table raws 0;
      temp_motor = float_field setup_table raws 1;
      avg_current_motor = float_field setup_table raws 2;
      avg_current_input = float_field setup_table raws 3;
      duty_cycle = float_field setup_table raws 4;
      rpm = float_field setup_table raws 5;
      speed = float_field setup_table raws 6;
      voltage_in = float_field setup_table raws 7;
      battery_level = float_field setup_table raws 8;
      amp_hours = float_field setup_table raws 9;
      amp_hours_charged = float_field setup_table raws 10;
      watt_hours = float_field setup_table raws 11;
      watt_hours_charged = float_field setup_table raws 12;
      distance = float_field setup_table raws 13;
      distance_abs = float_field setup_table raws 14;
      pid_pos = float_field setup_table raws 15;
      fault_code = code;
      controller_id = unsigned_field setup_table raws 17;
      num_vescs = unsigned_field setup_table raws 18;
      watt_hours_battery_left = float_field setup_table raws 19;
      odometer = unsigned_field setup_table raws 20;
      uptime_ms = unsigned_field setup_table raws 21;
    }

unfoldable pub setup_values_of : ℕ → List ℕ → SetupValues
setup_values_of mask raws = setup_values_with mask (fault_field setup_table raws 16) raws

-- GetStats
unfoldable pub stats_of : ℕ → List ℕ → Stats
stats_of mask raws =
    record {
      mask = mask;
      speed_avg = float_field stats_table raws 0;
      speed_max = float_field stats_table raws 1;
      power_avg = float_field stats_table raws 2;
      power_max = float_field stats_table raws 3;
      current_avg = float_field stats_table raws 4;
      current_max = float_field stats_table raws 5;
      temp_mosfet_avg = float_field stats_table raws 6;
      temp_mosfet_max = float_field stats_table raws 7;
      temp_motor_avg = float_field stats_table raws 8;
      temp_motor_max = float_field stats_table raws 9;
      count_time = float_field stats_table raws 10;
    }

-- records with nothing in them: no bit of a mask and no raw number, so each field is a zero (`Records`), with no fault
abbrev pub no_values : Values
no_values = values_with 0 FaultCode.None []

abbrev pub no_setup_values : SetupValues
no_setup_values = setup_values_with 0 FaultCode.None []

abbrev pub no_stats : Stats
no_stats = stats_of 0 []
