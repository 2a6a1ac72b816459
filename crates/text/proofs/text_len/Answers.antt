-- `text_len` meets its contract: the part before the first NUL where that is well-formed.
use mathlib.Core.Path.{sym, ◌∙◌}
use native.Mathlib.Omega.{arith}
use lib.Seq.{length-take-le}
use Rattle.names.proofs.Scanning.{found_ends}
use Rattle.text.proofs.Parts.{none-told, text-told}
use Rattle.text.proofs.text_len.Goals as goal

pub returns-in_err-end : goal.returns-in_err-end
returns-in_err-end c = rw c.from_residual.ensures (none-told _ _ c.find_nul.ensures (sym c.ok.ensures.value ∙ c.in_err-end.was))

pub overflow_sub-end : goal.overflow_sub-end
overflow_sub-end c = (found_ends _ _ _ _ c.find_nul.ensures c.in_ok-end.ensures.value).0

pub slice_bounds-well_formed-end : goal.slice_bounds-well_formed-end
slice_bounds-well_formed-end c =
    let ends = found_ends _ _ _ _ c.find_nul.ensures c.in_ok-end.ensures.value in
    sym (length-take-le _ _ (omega arith))

pub returns : goal.returns
returns c = rw c.then_some.ensures (text-told _ _ c.find_nul.ensures _ _ c.in_ok-end.ensures.value c.well_formed-2.ensures)
