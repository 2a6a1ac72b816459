-- `packer::put_be` meets its contract: storing the digits that are left gives what storing all of them gives.
use mathlib.Core.Path.{◌≡◌, refl, ◌∙◌}
use native.Mathlib.Omega.{arith}
use borrow.Author.Rules.{rules}
use Rattle.packer.specs.Numbers.{big_endian}
use Rattle.packer.proofs.Writes.{digits-length, turn, stored}
use Rattle.packer.proofs.put_be.Goals as goal

pub loop-k-init : goal.loop-k-init
loop-k-init c = (search rules, refl, refl)

pub loop-k-preserved : goal.loop-k-preserved
loop-k-preserved c = (
  search rules,
  search rules,
  turn c.loop-k.buf _ _ c.loop-k.rest c.loop-k-test.true ∙ c.loop-k.invariant.2,
)

pub returns : goal.returns
unfolding big_endian
returns c =
    let z : c.loop-k.k ≡ 0 = omega arith in
    (rw z at c.loop-k.invariant.2)
    ∙ stored (big_endian c.args.width c.args.number) _ _
    (omega (arith, digits-length c.args.width c.args.number))
