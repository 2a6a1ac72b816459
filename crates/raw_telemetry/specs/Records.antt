-- The three raw records by the rows of their tables, each field by its name: GetValues and GetValuesSelective, GetValuesSetupSelective, GetStats.
use Rattle.std.specs.Prelude.{List, [], ℕ}
use Rattle.tables.specs.Tables.{values_table, setup_table, stats_table}
use Rattle.raw_telemetry.specs.Rows.{Rows, ◌▹◌, row, rows_from}
use Rattle.raw_telemetry.specs.declared.RawValues.{RawValues}
use Rattle.raw_telemetry.specs.declared.RawSetupValues.{RawSetupValues}
use Rattle.raw_telemetry.specs.declared.RawStats.{RawStats}

-- the rows of a record
abbrev pub values_rows : RawValues → Rows values_table
values_rows v =
    v.temp_mosfet
    ▹ v.temp_motor
    ▹ v.avg_current_motor
    ▹ v.avg_current_input
    ▹ v.avg_current_d
    ▹ v.avg_current_q
    ▹ v.duty_cycle
    ▹ v.rpm
    ▹ v.voltage_in
    ▹ v.amp_hours
    ▹ v.amp_hours_charged
    ▹ v.watt_hours
    ▹ v.watt_hours_charged
    ▹ v.tachometer
    ▹ v.tachometer_abs
    ▹ v.fault_code
    ▹ v.pid_pos
    ▹ v.controller_id
    ▹ v.temp_mosfet1
    ▹ v.temp_mosfet2
    ▹ v.temp_mosfet3
    ▹ v.avg_voltage_d
    ▹ v.avg_voltage_q
    ▹ v.status
    ▹ tt

-- the record of a mask and rows
abbrev pub values_by : ℕ → Rows values_table → RawValues
values_by mask rows =
    record {
      mask = mask;
      temp_mosfet = row values_table rows 0;
      temp_motor = row values_table rows 1;
      avg_current_motor = row values_table rows 2;
      avg_current_input = row values_table rows 3;
      avg_current_d = row values_table rows 4;
      avg_current_q = row values_table rows 5;
      duty_cycle = row values_table rows 6;
      rpm = row values_table rows 7;
      voltage_in = row values_table rows 8;
      amp_hours = row values_table rows 9;
      amp_hours_charged = row values_table rows 10;
      watt_hours = row values_table rows 11;
      watt_hours_charged = row values_table rows 12;
      tachometer = row values_table rows 13;
      tachometer_abs = row values_table rows 14;
      fault_code = row values_table rows 15;
      pid_pos = row values_table rows 16;
      controller_id = row values_table rows 17;
      temp_mosfet1 = row values_table rows 18;
      temp_mosfet2 = row values_table rows 19;
      temp_mosfet3 = row values_table rows 20;
      avg_voltage_d = row values_table rows 21;
      avg_voltage_q = row values_table rows 22;
      status = row values_table rows 23;
    }

-- from the raw numbers of the rows
unfoldable pub raw_values_of : ℕ → List ℕ → RawValues
raw_values_of mask raws = values_by mask (rows_from values_table raws 0)

-- with nothing in it: no bit of a mask and no raw number
unfoldable pub no_raw_values : RawValues
no_raw_values = raw_values_of 0 []

-- the rows of a record
abbrev pub setup_rows : RawSetupValues → Rows setup_table
setup_rows v =
    v.temp_mosfet
    ▹ v.temp_motor
    ▹ v.avg_current_motor
    ▹ v.avg_current_input
    ▹ v.duty_cycle
    ▹ v.rpm
    ▹ v.speed
    ▹ v.voltage_in
    ▹ v.battery_level
    ▹ v.amp_hours
    ▹ v.amp_hours_charged
    ▹ v.watt_hours
    ▹ v.watt_hours_charged
    ▹ v.distance
    ▹ v.distance_abs
    ▹ v.pid_pos
    ▹ v.fault_code
    ▹ v.controller_id
    ▹ v.num_vescs
    ▹ v.watt_hours_battery_left
    ▹ v.odometer
    ▹ v.uptime_ms
    ▹ tt

-- the record of a mask and rows
abbrev pub setup_by : ℕ → Rows setup_table → RawSetupValues
setup_by mask rows =
    record {
      mask = mask;
      temp_mosfet = row setup_table rows 0;
      temp_motor = row setup_table rows 1;
      avg_current_motor = row setup_table rows 2;
      avg_current_input = row setup_table rows 3;
      duty_cycle = row setup_table rows 4;
      rpm = row setup_table rows 5;
      speed = row setup_table rows 6;
      voltage_in = row setup_table rows 7;
      battery_level = row setup_table rows 8;
      amp_hours = row setup_table rows 9;
      amp_hours_charged = row setup_table rows 10;
      watt_hours = row setup_table rows 11;
      watt_hours_charged = row setup_table rows 12;
      distance = row setup_table rows 13;
      distance_abs = row setup_table rows 14;
      pid_pos = row setup_table rows 15;
      fault_code = row setup_table rows 16;
      controller_id = row setup_table rows 17;
      num_vescs = row setup_table rows 18;
      watt_hours_battery_left = row setup_table rows 19;
      odometer = row setup_table rows 20;
      uptime_ms = row setup_table rows 21;
    }

-- from the raw numbers of the rows
unfoldable pub raw_setup_values_of : ℕ → List ℕ → RawSetupValues
raw_setup_values_of mask raws = setup_by mask (rows_from setup_table raws 0)

-- with nothing in it: no bit of a mask and no raw number
unfoldable pub no_raw_setup_values : RawSetupValues
no_raw_setup_values = raw_setup_values_of 0 []

-- the rows of a record
abbrev pub stats_rows : RawStats → Rows stats_table
stats_rows v =
    v.speed_avg
    ▹ v.speed_max
    ▹ v.power_avg
    ▹ v.power_max
    ▹ v.current_avg
    ▹ v.current_max
    ▹ v.temp_mosfet_avg
    ▹ v.temp_mosfet_max
    ▹ v.temp_motor_avg
    ▹ v.temp_motor_max
    ▹ v.count_time
    ▹ tt

-- the record of a mask and rows
abbrev pub stats_by : ℕ → Rows stats_table → RawStats
stats_by mask rows =
    record {
      mask = mask;
      speed_avg = row stats_table rows 0;
      speed_max = row stats_table rows 1;
      power_avg = row stats_table rows 2;
      power_max = row stats_table rows 3;
      current_avg = row stats_table rows 4;
      current_max = row stats_table rows 5;
      temp_mosfet_avg = row stats_table rows 6;
      temp_mosfet_max = row stats_table rows 7;
      temp_motor_avg = row stats_table rows 8;
      temp_motor_max = row stats_table rows 9;
      count_time = row stats_table rows 10;
    }

-- from the raw numbers of the rows
unfoldable pub raw_stats_of : ℕ → List ℕ → RawStats
raw_stats_of mask raws = stats_by mask (rows_from stats_table raws 0)

-- with nothing in it: no bit of a mask and no raw number
unfoldable pub no_raw_stats : RawStats
no_raw_stats = raw_stats_of 0 []
