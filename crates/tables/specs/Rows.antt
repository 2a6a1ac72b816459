-- The code's own tables: a row a field, its bit in the mask and its width in bytes.
use Rattle.std.specs.Prelude.{Bool, true, ◌&&◌, List, [], ◌∷◌, ◌++◌, ℕ, ◌-◌, T, ltb, length, replicate}
use Rattle.format.specs.Format.{table_rows, values_bit_count, setup_bit_count, stats_bit_count}
use Rattle.tables.specs.Tables.{Field, width_of, values_table, setup_table, stats_table}
use Rattle.tables.specs.declared.Row.{Row}

-- a field's row
abbrev pub row_of : Field → Row
row_of f = record { bit = f.bit; width = width_of f.coding }

-- a table's rows
abbrev pub rows_of : List Field → List Row
rows_of [] = []
rows_of (f ∷ table) = row_of f ∷ rows_of table

-- the raw numbers of a table as the code has them: zeros stand past a shorter one
unfoldable pub padded : List ℕ → List ℕ
padded raws = raws ++ replicate (table_rows - length raws) 0

-- whether no field is governed by a bit past so many
abbrev pub bits_below : ℕ → List Field → Bool
bits_below bits [] = true
bits_below bits (f ∷ table) = ltb f.bit bits && bits_below bits table

-- "bits 0 to 21", "bits 0 to 21", "bits 0 to 10"
pub record MaskBits : Type 0 where
  pub values : T (bits_below values_bit_count values_table)
  pub setup : T (bits_below setup_bit_count setup_table)
  pub stats : T (bits_below stats_bit_count stats_table)
