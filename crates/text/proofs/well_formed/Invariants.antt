-- `well_formed` meets its contract. The loop's invariant: what is left is as well-formed as the whole.
use Rattle.std.specs.Prelude.{◌≡◌, length}
use Rattle.text.specs.Utf8.{well_formed}
use Rattle.text.proofs.well_formed.Given as goal

abbrev pub invariant-loop-rows : goal.invariant-loop-rows
invariant-loop-rows l = well_formed l.bytes ≡ well_formed l.left

abbrev pub decreases-loop-rows : goal.decreases-loop-rows
decreases-loop-rows l = length l.left
