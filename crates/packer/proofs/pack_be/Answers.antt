-- `packer::pack_be` meets its contract.
use mathlib.Core.Path.{◌≡◌}
use native.Mathlib.Omega.{arith}
use borrow.Author.Rules.{rules}
use Rattle.std.specs.Prelude.{Err}
use Rattle.packer.proofs.Places.{not_roomy}
use Rattle.packer.proofs.Writes.{digits-packed, no-digits-refused}
use Rattle.packer.proofs.pack_be.Goals as goal

pub returns-in_err-end : goal.returns-in_err-end
returns-in_err-end c =
    let passed : c.from_residual.result ≡ Err c.in_err-end.field-0.0 = search rules in
    let out = not_roomy c.in_err-end.ensures.answer in
    rw passed (no-digits-refused _ _ _ _ out.lacks _ out.says)

pub returns : goal.returns
returns c =
    let ends = c.in_ok-end.ensures.inside in
    rw ends.0 (digits-packed _ _ _ _ _ (omega (arith, ends.0, ends.1)) c.put_be.ensures)
