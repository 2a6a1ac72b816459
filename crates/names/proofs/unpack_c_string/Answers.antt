-- `unpack_c_string` meets its contract: a found place ends the part that is copied, and the copy leaves what the name holds.
use mathlib.Core.Path.{refl, sym, ap, ◌∙◌}
use Rattle.std.proofs.lemmas.Result.{err_from_is_err_and}
use Rattle.refusals.specs.Refusals.{consumed}
use Rattle.names.specs.Names.{held_bytes}
use Rattle.names.proofs.Places.{found-ends}
use Rattle.names.proofs.Holding.{copied-held, name_of}
use Rattle.names.proofs.unpack_c_string.Goals as goal

pub returns-in_err-next : goal.returns-in_err-next
unfolding held_bytes
returns-in_err-next g c =
    let p = err_from_is_err_and c.from_residual.result c.from_residual.ensures.1 in
    let refused = ap consumed (sym c.in_err-next.was) ∙ c.find_nul.ensures in
    rw (p.1, p.2) (name_of g.row.N c.args.buf.now c.args.pos _ _ refused refl)

pub returns : goal.returns
returns g c =
    let ends = found-ends g.row.N c.args.buf.now c.args.pos c.in_ok-next.next c.find_nul.ensures c.in_ok-next.was in
    name_of g.row.N c.args.buf.now c.args.pos _ _ (ap consumed (sym c.in_ok-next.was) ∙ c.find_nul.ensures)
    (rw c.copy_from_slice.ensures.after (copied-held _ _ _ _ ends))
