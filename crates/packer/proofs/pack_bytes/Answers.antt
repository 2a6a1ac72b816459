-- `packer::pack_bytes` meets its contract.
use mathlib.Core.Path.{◌≡◌}
use borrow.Author.Rules.{rules}
use Rattle.std.specs.Prelude.{Err}
use Rattle.packer.proofs.Places.{not_roomy}
use Rattle.packer.proofs.Writes.{full-refused, copied-packed}
use Rattle.packer.proofs.pack_bytes.Goals as goal

pub returns-in_err-end : goal.returns-in_err-end
returns-in_err-end c =
    let passed : c.from_residual.result ≡ Err c.in_err-end.field-0.0 = search rules in
    let out = not_roomy c.in_err-end.ensures.answer in
    rw passed (full-refused _ _ _ out.lacks _ out.says)

pub returns : goal.returns
returns c =
    let ends = c.in_ok-end.ensures.inside in
    copied-packed _ _ _ _ _ ends.0 ends.1 c.copy_from_slice.ensures.after
