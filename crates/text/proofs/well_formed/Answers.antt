-- `well_formed` meets its contract.
use mathlib.Core.Path.{refl, sym, ap, ◌∙◌}
use Rattle.text.specs.Utf8.{table, front_length, well_formed}
use Rattle.text.proofs.Passing.{past-sequence, no-sequence, left-shorter, none-formed}
use Rattle.text.proofs.well_formed.Goals as goal

pub returns-in_default : goal.returns-in_default
returns-in_default c = sym (c.loop-rows.invariant ∙ no-sequence c.loop-rows.left.now (sym c.loop-rows-test.ensures) c.in_default.ensures)

pub loop-rows-smaller : goal.loop-rows-smaller
loop-rows-smaller c = rw c.in-Some.ensures.1 (left-shorter c.loop-rows.left.now (sym c.loop-rows-test.ensures) c.in-Some.ensures.0)

pub loop-rows-preserved : goal.loop-rows-preserved
loop-rows-preserved c =
    let left = c.loop-rows.left.now in
    c.loop-rows.invariant ∙ past-sequence (front_length table left) left refl c.in-Some.ensures.0 ∙ ap well_formed (sym c.in-Some.ensures.1)

pub returns : goal.returns
returns c = sym (c.loop-rows.invariant ∙ none-formed c.loop-rows.left.now (sym c.loop-rows-test.ensures))
