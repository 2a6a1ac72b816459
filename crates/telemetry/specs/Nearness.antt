-- The error bound of document 01, "Numbers", of the scaled fields of a record.
use Rattle.std.specs.Prelude.{◌≡◌, true, ℕ, ◌+◌, ◌<◌, List, Float, length, take}
use Rattle.packer.specs.Numbers.{total}
use Rattle.packer.specs.Nearness.{ScaledNear}
use Rattle.tables.specs.Tables.{Coding, h, w, i, u, b, fault_byte, F, Field, has_bit, widths}
use Rattle.telemetry.specs.Telemetry.{entry, float_in}
use Rattle.telemetry.specs.Records.{ByTable, field_in}

-- the bound, of a field whose bytes begin at a place, if its kind is h_s or w_s; the other kinds are not scaled, and nothing is claimed of them
abbrev pub CodingNear : Coding → List ℕ → ℕ → Float → Type 0
CodingNear (h scale) s at x = ScaledNear 2 scale s at x
CodingNear (w scale) s at x = ScaledNear 4 scale s at x
CodingNear i s at x = Unit {0}
CodingNear u s at x = Unit {0}
CodingNear b s at x = Unit {0}
CodingNear fault_byte s at x = Unit {0}
CodingNear F s at x = Unit {0}

-- the bound, of each field whose bit the mask has. The fields begin at `start` in s, and a field's bytes follow those of the fields before it.
abbrev pub FieldsNear : List Field → ℕ → List ℕ → ℕ → ByTable → Type 0
FieldsNear table mask s start r =
    (k : ℕ) → k < length table → has_bit mask (entry table k).bit ≡ true
    → CodingNear (entry table k).coding s (start + total (widths mask (take k table))) (float_in (field_in r k))
