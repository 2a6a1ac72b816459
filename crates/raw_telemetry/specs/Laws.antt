-- Rows and their numbers undo each other, shown once over every table; and each record is its mask and its rows.
use Rattle.std.specs.Prelude.{◌≡◌, List, ℕ}
use Rattle.packer.specs.Numbers.{digits, Below}
use Rattle.tables.specs.Tables.{Field, values_table, setup_table, stats_table, widths}
use Rattle.raw_telemetry.specs.Rows.{Rows, RowsFit, numbers_of, rows_from, present}
use Rattle.raw_telemetry.specs.Records.{values_rows, values_by, setup_rows, setup_by, stats_rows, stats_by}
use Rattle.raw_telemetry.specs.declared.RawValues.{RawValues}
use Rattle.raw_telemetry.specs.declared.RawSetupValues.{RawSetupValues}
use Rattle.raw_telemetry.specs.declared.RawStats.{RawStats}

pub record RowLaws (table : List Field) : Type 0 where
  -- numbers that were read under a mask are those of their rows; the rows fit their types, and those that the mask lacks are zero
  pub numbers-back : (mask : ℕ) (raws : List ℕ) → Below (widths mask table) raws → numbers_of table (rows_from table raws 0) ≡ raws
  pub read-present : (mask : ℕ) (raws : List ℕ) → Below (widths mask table) raws → present mask table (rows_from table raws 0) ≡ rows_from table raws 0
  pub read_fits : (mask : ℕ) (raws : List ℕ) → Below (widths mask table) raws → RowsFit table (rows_from table raws 0)
  -- the rows under a mask are sent in the widths that it leaves, and come back from their numbers
  pub below : (mask : ℕ) (rows : Rows table) → RowsFit table rows → Below (widths mask table) (numbers_of table (present mask table rows))
  pub rows_back : (rows : Rows table) → RowsFit table rows → rows_from table (numbers_of table rows) 0 ≡ rows
  pub present-fits : (mask : ℕ) (rows : Rows table) → RowsFit table rows → RowsFit table (present mask table rows)
  -- what the mask lacks is not sent, whatever it is
  pub digits-present : (mask : ℕ) (rows : Rows table) → digits (widths mask table) (numbers_of table (present mask table rows)) ≡ digits (widths mask table) (numbers_of table rows)

pub record RecordLaws : Type 0 where
  pub values-back : (v : RawValues) → values_by v.mask (values_rows v) ≡ v
  pub setup-back : (v : RawSetupValues) → setup_by v.mask (setup_rows v) ≡ v
  pub stats-back : (v : RawStats) → stats_by v.mask (stats_rows v) ≡ v
  pub values-rows : (mask : ℕ) (rows : Rows values_table) → values_rows (values_by mask rows) ≡ rows
  pub setup-rows : (mask : ℕ) (rows : Rows setup_table) → setup_rows (setup_by mask rows) ≡ rows
  pub stats-rows : (mask : ℕ) (rows : Rows stats_table) → stats_rows (stats_by mask rows) ≡ rows
