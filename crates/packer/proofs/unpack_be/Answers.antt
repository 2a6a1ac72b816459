-- `packer::unpack_be` meets its contract.
use mathlib.Core.Path.{◌≡◌, sym}
use native.Mathlib.Omega.{arith}
use borrow.Author.Rules.{rules}
use Rattle.std.specs.Prelude.{Err}
use Rattle.packer.proofs.Places.{got, lacking, not_there}
use Rattle.packer.proofs.unpack_be.Goals as goal

pub returns-in_err-next : goal.returns-in_err-next
returns-in_err-next c =
    let passed : c.from_residual.result ≡ Err c.in_err-next.field-0.0 = search rules in
    let out = not_there c.in_err-next.ensures.answer in
    (rw (passed, out.says) (sym (lacking _ _ _ _ out.lacks)), rw passed tt)

pub returns : goal.returns
returns c =
    let ends = c.in_ok-next.ensures.inside in
    (rw (c.be.ensures.0, ends.0) (sym (got _ _ _ _ (omega (arith, ends.0, ends.1)))), c.be.ensures.1)
