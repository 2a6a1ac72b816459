-- Which table a masked reply goes by, document 01, "Reply fields", and the bits that its mask has.
use Rattle.std.specs.Prelude.{Bool, List, ℕ, ◌^◌, ltb}
use Rattle.format.specs.Format.{values_bit_count, setup_bit_count, stats_bit_count}
use Rattle.tables.specs.Tables.{Field, values_table, setup_table, stats_table}
use Rattle.tables.specs.declared.Sort.{Sort}
use Rattle.tables.specs.declared.Sort.TheVariants.{Values, SetupValues, Stats}

abbrev pub table_of : Sort → List Field
table_of Values = values_table
table_of SetupValues = setup_table
table_of Stats = stats_table

-- how many bits its mask has: "bits 0 to 21", "bits 0 to 21", "bits 0 to 10"
abbrev pub mask_bits : Sort → ℕ
mask_bits Values = values_bit_count
mask_bits SetupValues = setup_bit_count
mask_bits Stats = stats_bit_count

-- whether a mask has no bit from so many on. Document 02, W4: a reply whose mask has one is not written, "8 UnknownMaskBits"
unfoldable pub known_bits : Sort → ℕ → Bool
known_bits sort mask = ltb mask (2 ^ mask_bits sort)
