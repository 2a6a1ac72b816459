-- `tables::unpack_fields` meets its contract: storing the numbers that are left over those that are stored gives what storing all of them over
-- zeros gives.
use Prim.Native.Nat.{◌+◌}
use mathlib.Core.Path.{◌≡◌}
use lib.ListN.{length, drop, replicate}
use lib.Seq.{sets}
use Rattle.format.specs.Format.{table_rows}
use Rattle.packer.specs.Numbers.{total, numbers_at}
use Rattle.tables.specs.Tables.{widths}
use Rattle.tables.specs.Sorts.{table_of}
use Rattle.tables.proofs.unpack_fields.Given as goal

abbrev pub invariant-loop-k : goal.invariant-loop-k
invariant-loop-k l =
    let all = widths l.mask (table_of l.fn.sort) in
    (l.at + total (drop l.k all) ≡ total all) × (length l.raw ≡ table_rows)
    × (sets l.raw l.k (numbers_at (drop l.k all) l.part l.at) ≡ sets (replicate table_rows 0) 0 (numbers_at all l.part 0))
