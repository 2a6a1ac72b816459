-- `tables::span` meets its contract: the sum, and what the rows not yet passed take, is what all of them take.
use Prim.Native.Nat.{◌+◌}
use mathlib.Core.Path.{◌≡◌}
use lib.ListN.{drop}
use Rattle.packer.specs.Numbers.{total}
use Rattle.tables.specs.Tables.{widths}
use Rattle.tables.specs.Sorts.{table_of}
use Rattle.tables.proofs.span.Given as goal

abbrev pub invariant-loop-row : goal.invariant-loop-row
invariant-loop-row l =
    let all = widths l.mask (table_of l.fn.sort) in
    l.sum + total (drop l.row-index all) ≡ total all
