-- Zeros behind the raw numbers of a table change no record.
use mathlib.Core.Path.{◌≡◌}
use mathlib.Core.List.{List}
use Prim.Native.Nat.{ℕ}
use Rattle.tables.specs.Rows.{padded}
use Rattle.tables.proofs.Widths.{zeros-behind}
use Rattle.telemetry.specs.Telemetry.{values_with, values_of, setup_values_with, setup_values_of, stats_of}

module _ (mask : ℕ) (raws : List ℕ) where
  pub values-padded : values_of mask (padded raws) ≡ values_of mask raws
  unfolding padded values_of values_with
  values-padded = simp zeros-behind

  pub setup-padded : setup_values_of mask (padded raws) ≡ setup_values_of mask raws
  unfolding padded setup_values_of setup_values_with
  setup-padded = simp zeros-behind

  pub stats-padded : stats_of mask (padded raws) ≡ stats_of mask raws
  unfolding padded stats_of
  stats-padded = simp zeros-behind
