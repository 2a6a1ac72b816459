-- `tables::pack_fields` meets its contract: with room for all of them, writing the fields that are left behind those that are written makes what
-- writing all of them makes of the slice as it was.
use Prim.Native.Nat.{◌+◌, ◌≤◌}
use lib.ListN.{length, drop}
use Rattle.packer.specs.Numbers.{total, digits}
use Rattle.tables.specs.Tables.{widths}
use Rattle.tables.specs.Sorts.{table_of}
use Rattle.tables.proofs.Turns.{Onward}
use Rattle.tables.proofs.pack_fields.Given as goal

abbrev pub invariant-loop-row : goal.invariant-loop-row
invariant-loop-row l =
    let all = widths l.mask (table_of l.fn.sort) in
    let k = length l.yielded in
    (l.at + total (drop k all) ≤ length l.buf)
    × Onward (digits (drop k all) (drop k l.fn.raw)) l.buf l.at (digits all l.fn.raw) l.initial.buf l.pos
