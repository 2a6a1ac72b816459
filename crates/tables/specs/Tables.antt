-- The masked replies, document 01, "Reply fields": the field tables, once, and the widths that a mask leaves of them.
use Rattle.std.specs.Prelude.{ℕ, ◌+◌, ◌/◌, ◌%◌, ◌^◌, Bool, cond, List, [], ◌∷◌, eqb, get_or}

-- "h_s is a signed 16-bit number over S, w_s a signed 32-bit number over S, i and u signed and unsigned 32-bit, b a byte, F a binary32 by its bits."
-- `fault_byte` is the b of fault_code: "Fault bytes 0 to 29 have names".
pub data Coding : Type 0 where
  h : ℕ → Coding
  w : ℕ → Coding
  i : Coding
  u : Coding
  b : Coding
  fault_byte : Coding
  F : Coding

-- the bytes that it takes
abbrev pub width_of : Coding → ℕ
width_of (h scale) = 2
width_of (w scale) = 4
width_of i = 4
width_of u = 4
width_of b = 1
width_of fault_byte = 1
width_of F = 4

-- a field: the bit of the mask that governs it, and how its number is coded
pub record Field : Type 0 where
  pub bit : ℕ
  pub coding : Coding

abbrev pub field : ℕ → Coding → Field
field bit coding = record { bit = bit; coding = coding }

-- GetValuesSelective, and GetValues as the mask of all ones. "Bit 18 governs the three temp_mosfet1..3 together."
abbrev pub values_table : List Field
values_table =
    field 0 (h 10)  -- temp_mosfet
    ∷ field 1 (h 10)  -- temp_motor
    ∷ field 2 (w 100)  -- avg_current_motor
    ∷ field 3 (w 100)  -- avg_current_input
    ∷ field 4 (w 100)  -- avg_current_d
    ∷ field 5 (w 100)  -- avg_current_q
    ∷ field 6 (h 1000)  -- duty_cycle
    ∷ field 7 (w 1)  -- rpm
    ∷ field 8 (h 10)  -- voltage_in
    ∷ field 9 (w 10000)  -- amp_hours
    ∷ field 10 (w 10000)  -- amp_hours_charged
    ∷ field 11 (w 10000)  -- watt_hours
    ∷ field 12 (w 10000)  -- watt_hours_charged
    ∷ field 13 i  -- tachometer
    ∷ field 14 i  -- tachometer_abs
    ∷ field 15 fault_byte  -- fault_code
    ∷ field 16 (w 1000000)  -- pid_pos
    ∷ field 17 b  -- controller_id
    ∷ field 18 (h 10)  -- temp_mosfet1
    ∷ field 18 (h 10)  -- temp_mosfet2
    ∷ field 18 (h 10)  -- temp_mosfet3
    ∷ field 19 (w 1000)  -- avg_voltage_d
    ∷ field 20 (w 1000)  -- avg_voltage_q
    ∷ field 21 b  -- status
    ∷ []

-- GetValuesSetupSelective
abbrev pub setup_table : List Field
setup_table =
    field 0 (h 10)  -- temp_mosfet
    ∷ field 1 (h 10)  -- temp_motor
    ∷ field 2 (w 100)  -- avg_current_motor
    ∷ field 3 (w 100)  -- avg_current_input
    ∷ field 4 (h 1000)  -- duty_cycle
    ∷ field 5 (w 1)  -- rpm
    ∷ field 6 (w 1000)  -- speed
    ∷ field 7 (h 10)  -- voltage_in
    ∷ field 8 (h 1000)  -- battery_level
    ∷ field 9 (w 10000)  -- amp_hours
    ∷ field 10 (w 10000)  -- amp_hours_charged
    ∷ field 11 (w 10000)  -- watt_hours
    ∷ field 12 (w 10000)  -- watt_hours_charged
    ∷ field 13 (w 1000)  -- distance
    ∷ field 14 (w 1000)  -- distance_abs
    ∷ field 15 (w 1000000)  -- pid_pos
    ∷ field 16 fault_byte  -- fault_code
    ∷ field 17 b  -- controller_id
    ∷ field 18 b  -- num_vescs
    ∷ field 19 (w 1000)  -- watt_hours_battery_left
    ∷ field 20 u  -- odometer
    ∷ field 21 u  -- uptime_ms
    ∷ []

-- GetStats: "bits 0 to 10, each F"
abbrev pub stats_table : List Field
stats_table =
    field 0 F  -- speed_avg
    ∷ field 1 F  -- speed_max
    ∷ field 2 F  -- power_avg
    ∷ field 3 F  -- power_max
    ∷ field 4 F  -- current_avg
    ∷ field 5 F  -- current_max
    ∷ field 6 F  -- temp_mosfet_avg
    ∷ field 7 F  -- temp_mosfet_max
    ∷ field 8 F  -- temp_motor_avg
    ∷ field 9 F  -- temp_motor_max
    ∷ field 10 F  -- count_time
    ∷ []

-- the entry at a place of a table
abbrev pub entry : List Field → ℕ → Field
entry table k = get_or table k (field 0 b)

-- whether a mask has a bit
unfoldable pub has_bit : ℕ → ℕ → Bool
has_bit mask bit = eqb (mask / 2 ^ bit % 2) 1

-- the bytes that a field takes under a mask: none where its bit is not set
unfoldable pub takes : ℕ → Field → ℕ
takes mask f = cond (has_bit mask f.bit) (width_of f.coding) 0

-- their widths under a mask, in the table's order: "mask u, then those fields in that order whose bit is set"; "Other mask bits consume nothing."
unfoldable pub widths : ℕ → List Field → List ℕ
widths mask [] = []
widths mask (f ∷ table) = takes mask f ∷ widths mask table

-- the bytes of a table's fields where the mask has every one
unfoldable pub most : List Field → ℕ
most [] = 0
most (f ∷ table) = width_of f.coding + most table
