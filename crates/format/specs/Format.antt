-- The numbers of the format, each named once. src/lib.rt has the same for the code.
use Rattle.std.specs.Prelude.{List, [], ◌∷◌, ◌++◌, map, ℕ, ◌-◌, ◌^◌}
use Rattle.format.specs.declared.CommandId.{CommandId}
use Rattle.format.specs.declared.CommandId.TheVariants.{FwVersion, GetValues, SetDuty, SetCurrent, SetCurrentBrake, SetRpm, SetPos, SetHandbrake}
use Rattle.format.specs.declared.CommandId.TheVariants.{Reboot, Alive, ForwardCan, GetValuesSelective, GetValuesSetupSelective, SetCurrentRel}
use Rattle.format.specs.declared.CommandId.TheVariants.{SetOdometer, GetStats, ResetStats, Shutdown, FwInfo, MotorEstop}

-- 1. Document 01, "Commands": "Ids as in `CommandId`."

abbrev pub id_of : CommandId → ℕ
id_of FwVersion = 0
id_of GetValues = 4
id_of SetDuty = 5
id_of SetCurrent = 6
id_of SetCurrentBrake = 7
id_of SetRpm = 8
id_of SetPos = 9
id_of SetHandbrake = 10
id_of Reboot = 29
id_of Alive = 30
id_of ForwardCan = 34
id_of GetValuesSelective = 50
id_of GetValuesSetupSelective = 51
id_of SetCurrentRel = 84
id_of SetOdometer = 110
id_of GetStats = 128
id_of ResetStats = 129
id_of Shutdown = 156
id_of FwInfo = 157
id_of MotorEstop = 159

-- all of them, in the order of `CommandId`
abbrev pub all_ids : List CommandId
all_ids =
    FwVersion ∷ GetValues ∷ SetDuty ∷ SetCurrent ∷ SetCurrentBrake ∷ SetRpm ∷ SetPos ∷ SetHandbrake ∷ Reboot ∷ Alive ∷ ForwardCan ∷ GetValuesSelective
    ∷ GetValuesSetupSelective ∷ SetCurrentRel ∷ SetOdometer ∷ GetStats ∷ ResetStats ∷ Shutdown ∷ FwInfo ∷ MotorEstop ∷ []

-- 2. Document 01, "The envelope": "A frame is 2, length n, n payload bytes, the checksum of the payload high byte first, then 3: n + 5 bytes."

abbrev pub frame_start : ℕ
frame_start = 2

abbrev pub frame_end : ℕ
frame_end = 3

-- where the payload begins, behind the start byte and the length
abbrev pub payload_at : ℕ
payload_at = 2

-- what a frame adds to its payload
abbrev pub frame_extra : ℕ
frame_extra = 5

-- the most that a length byte can say
abbrev pub payload_max : ℕ
payload_max = 255

-- 3. Document 01, "Reply fields": "Names hold 39 bytes in FwVersion, 47 in FwInfo"

abbrev pub name_room : ℕ
name_room = 39

abbrev pub hash_room : ℕ
hash_room = 47

-- "bits 0 to 21" of both selective replies, "bits 0 to 10" of GetStats
abbrev pub values_bit_count : ℕ
values_bit_count = 22

abbrev pub setup_bit_count : ℕ
setup_bit_count = 22

abbrev pub stats_bit_count : ℕ
stats_bit_count = 11

-- the mask of all ones: GetValues has every field
abbrev pub all_values : ℕ
all_values = 2 ^ values_bit_count - 1

-- the rows of the longest field table, where "Bit 18 governs the three temp_mosfet1..3 together"
abbrev pub table_rows : ℕ
table_rows = 24

-- 4. Document 01, "Port order and change of shape": "a state with its 512-byte buffer"

abbrev pub capacity : ℕ
capacity = 512

-- Document 02, W12: "There at most 109 bytes are unread", in a drained state
abbrev pub drained_most : ℕ
drained_most = 109

-- the numbers of the code, in the order of its `named`
abbrev pub numbers : List ℕ
numbers =
    map id_of all_ids
    ++ (frame_start
    ∷ frame_end
    ∷ payload_at
    ∷ frame_extra
    ∷ payload_max
    ∷ name_room
    ∷ hash_room
    ∷ capacity
    ∷ drained_most
    ∷ table_rows
    ∷ values_bit_count ∷ setup_bit_count ∷ stats_bit_count ∷ all_values
    ∷ [])
