-- The scaled fields of a record are near: one law over a table.
use mathlib.Core.Path.{◌≡◌}
use mathlib.Core.Bool.{true}
use mathlib.Core.List.{List}
use Prim.Native.Nat.{ℕ, ◌<◌}
use native.Mathlib.Nat.{mod-eq_of_lt}
use native.Mathlib.Omega.{arith}
use Rattle.packer.specs.Numbers.{be_at}
use Rattle.packer.specs.Nearness.{Bytes}
use Rattle.packer.proofs.Nearness.{number_small, scaled-near}
use Rattle.tables.specs.Tables.{Coding, h, w, i, u, b, fault_byte, F, width_of, field}
use Rattle.tables.specs.Sorts.{table_of}
use Rattle.tables.specs.declared.Sort.{Sort}
use Rattle.tables.proofs.Widths.{raw-present}
use Rattle.telemetry.specs.Telemetry.{value_by, float_in, entry}
use Rattle.telemetry.specs.Records.{ByTable, RecordHolds}
use Rattle.telemetry.specs.Nearness.{CodingNear, FieldsNear}
use Rattle.telemetry.proofs.Scales.{coding_fits, positive, small, coding-fits}

-- one field
coding-near
    : (kind : Coding) (s : List ℕ) (at raw : ℕ) → Bytes s → coding_fits kind ≡ true → raw ≡ be_at s at (width_of kind)
    → CodingNear kind s at (float_in (value_by kind raw))
coding-near (h scale) s at raw bytes fits is =
    let below : be_at s at 2 < 65536 = number_small s bytes at 2 in
    rw (is, mod-eq_of_lt below) (scaled-near 2 scale (omega arith) (positive scale fits) (small scale fits) s at)
coding-near (w scale) s at raw bytes fits is = rw is (scaled-near 4 scale (omega arith) (positive scale fits) (small scale fits) s at)
coding-near i s at raw bytes fits is = tt
coding-near u s at raw bytes fits is = tt
coding-near b s at raw bytes fits is = tt
coding-near fault_byte s at raw bytes fits is = tt
coding-near F s at raw bytes fits is = tt

-- those of a record
pub record-near
    : (sort : Sort) (mask : ℕ) (s : List ℕ) (start : ℕ) (r : ByTable) → Bytes s → RecordHolds sort mask s start r
    → FieldsNear (table_of sort) mask s start r
record-near sort mask s start r bytes holds k inside has =
    rw (holds.fields k inside)
    (coding-near (entry (table_of sort) k).coding s _ _ bytes (coding-fits sort k) (raw-present mask s (field 0 b) (table_of sort) start k inside has))
