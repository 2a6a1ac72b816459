-- `tables::span` meets its contract: the sum, and what the rows not yet passed take, is what all of them take.
use mathlib.Core.Path.{refl}
use native.Mathlib.Omega.{arith}
use Rattle.tables.proofs.Turns.{row-bit, span-next, span-past, bytes-few}
use Rattle.tables.proofs.span.Goals as goal

pub takes-sum-requires : goal.takes-sum-requires
takes-sum-requires c = row-bit c.args.sort c.rows-row-items.ensures _ _ c.loop-row-test.true refl

pub overflow_add-sum : goal.overflow_add-sum
overflow_add-sum c =
    omega (
      arith,
      span-next c.args.sort c.rows-row-items.ensures _ _ c.loop-row-test.true refl c.args.mask c.takes-sum.ensures,
      bytes-few c.args.sort c.args.mask,
    )

pub loop-row-preserved : goal.loop-row-preserved
loop-row-preserved c =
    omega (arith, span-next c.args.sort c.rows-row-items.ensures _ _ c.loop-row-test.true refl c.args.mask c.takes-sum.ensures)

pub returns : goal.returns
returns c = omega (arith, span-past c.args.sort c.rows-row-items.ensures _ c.loop-row-test.false c.args.mask)
