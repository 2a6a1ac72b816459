-- `tables::unpack_fields` meets its contract: storing the numbers that are left over those that are stored gives what storing all of them over
-- zeros gives.
use Prim.Native.Nat.{ℕ}
use mathlib.Core.List.{List}
use mathlib.Core.Path.{refl, sym, ap, ◌∙◌}
use native.Mathlib.Nat.{add-zero}
use native.Mathlib.Omega.{arith}
use lib.ListN.{length-set}
use Rattle.packer.specs.Numbers.{numbers_at}
use Rattle.packer.proofs.Numbers.{numbers-drop}
use Rattle.tables.specs.Tables.{widths}
use Rattle.tables.specs.Sorts.{table_of}
use Rattle.tables.specs.Rows.{padded}
use Rattle.tables.proofs.Turns.{row-bit, taken-most, span-next, bytes-few, stored_next, stored_past, stored-all}
use Rattle.tables.proofs.unpack_fields.Goals as goal

pub takes-width-requires : goal.takes-width-requires
takes-width-requires c = row-bit c.args.sort c.rows-row-items.ensures _ _ c.loop-k-test.true refl

pub number_at-requires : goal.number_at-requires
number_at-requires c = (
  omega (arith, bytes-few c.args.sort c.args.mask),
  taken-most c.args.sort c.rows-row-items.ensures _ _ c.loop-k-test.true refl c.args.mask c.takes-width.ensures,
)

pub overflow_add-at : goal.overflow_add-at
overflow_add-at c =
    omega (
      arith,
      span-next c.args.sort c.rows-row-items.ensures _ _ c.loop-k-test.true refl c.args.mask c.takes-width.ensures,
      bytes-few c.args.sort c.args.mask,
    )

pub loop-k-preserved : goal.loop-k-preserved
loop-k-preserved c =
    let loop = c.loop-k in (
      omega (arith, span-next c.args.sort c.rows-row-items.ensures _ _ c.loop-k-test.true refl c.args.mask c.takes-width.ensures),
      length-set {A = ℕ} loop.raw _ _ ∙ loop.invariant.1,
      stored_next c.args.sort c.rows-row-items.ensures _ _ c.loop-k-test.true refl c.args.mask c.takes-width.ensures
          c.from_place-part.result.now loop.raw loop.at _ c.number_at.ensures
          ∙ loop.invariant.2,
    )

pub returns : goal.returns
returns c =
    let sort = c.args.sort in
    let mask = c.args.mask in
    let buf = c.args.buf.now in
    let pos = c.args.pos in
    let loop = c.loop-k in
    sym (stored_past sort c.rows-row-items.ensures _ c.loop-k-test.false mask c.from_place-part.result.now loop.raw loop.at)
    ∙ loop.invariant.2
    ∙ stored-all sort mask c.from_place-part.result.now
    ∙ ap (λ (part : List ℕ). padded (numbers_at (widths mask (table_of sort)) part 0)) c.from_place-part.ensures
    ∙ ap padded (numbers-drop (widths mask (table_of sort)) buf pos 0 ∙ ap (numbers_at (widths mask (table_of sort)) buf) (add-zero pos))
