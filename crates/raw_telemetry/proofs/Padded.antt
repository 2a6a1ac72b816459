-- Zeros behind the raw numbers of a table change no record.
use mathlib.Core.Path.{◌≡◌, refl, ap}
use mathlib.Core.List.{List, [], ◌∷◌}
use Prim.Native.Nat.{ℕ, suc, ◌-◌}
use lib.ListN.{length}
use Rattle.format.specs.Format.{table_rows}
use Rattle.tables.specs.Tables.{Field, values_table, setup_table, stats_table}
use Rattle.tables.specs.Rows.{padded}
use Rattle.tables.proofs.Widths.{zeros-behind}
use Rattle.raw_telemetry.specs.Rows.{raw_by, rows_from}
use Rattle.raw_telemetry.specs.Records.{values_by, raw_values_of, setup_by, raw_setup_values_of, stats_by, raw_stats_of}

rows-padded : (table : List Field) (raws : List ℕ) (k : ℕ) → rows_from table (padded raws) k ≡ rows_from table raws k
unfolding rows_from padded
rows-padded [] raws k = refl
rows-padded (f ∷ table) raws k =
    λ j. (raw_by f.coding (zeros-behind raws (table_rows - length raws) k j), rows-padded table raws (suc k) j)

module _ (mask : ℕ) (raws : List ℕ) where
  pub values-padded : raw_values_of mask (padded raws) ≡ raw_values_of mask raws
  unfolding raw_values_of
  values-padded = ap (values_by mask) (rows-padded values_table raws 0)

  pub setup-padded : raw_setup_values_of mask (padded raws) ≡ raw_setup_values_of mask raws
  unfolding raw_setup_values_of
  setup-padded = ap (setup_by mask) (rows-padded setup_table raws 0)

  pub stats-padded : raw_stats_of mask (padded raws) ≡ raw_stats_of mask raws
  unfolding raw_stats_of
  stats-padded = ap (stats_by mask) (rows-padded stats_table raws 0)
