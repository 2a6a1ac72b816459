-- `tables::word_at` meets its contract.
use Prim.Native.Nat.{ℕ}
use mathlib.Core.Path.{ap, ◌∙◌}
use native.Mathlib.Nat.{add-zero}
use Rattle.packer.specs.Numbers.{be_at}
use Rattle.packer.proofs.Numbers.{number-drop}
use Rattle.tables.proofs.word_at.Goals as goal

pub returns : goal.returns
returns c =
    let buf = c.args.buf.now in
    let pos = c.args.pos in
    rw c.from_place.ensures at c.number_at.ensures
    ∙ number-drop buf pos 0 4
    ∙ ap (λ (at : ℕ). be_at buf at 4) (add-zero pos)
