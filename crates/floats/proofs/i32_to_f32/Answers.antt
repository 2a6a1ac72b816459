-- `floats::i32_to_f32` meets its contract.
use Rattle.std.proofs.Common.{ℤ, pos, nat_abs, sym, ap, ◌∙◌, subst, ap₂, w16, SFits, to_z, of_z}
use lib.Ieee.{binary32, add, mul, of_int}
use mir.ValLaws.{to_z-of_z}
use Rattle.floats.proofs.Halves.{weight, joined, shifted, masked, low_of, high_fits, masked-fits}
use Rattle.floats.proofs.i32_to_f32.Goals as goal

pub overflow_cast-high : goal.overflow_cast-high
overflow_cast-high c =
    let n = c.args.n in
    let h = c.ranges.n in
    subst (SFits w16) (sym (shifted n h)) (high_fits n h)

pub overflow_cast-low : goal.overflow_cast-low
overflow_cast-low c = search masked-fits

pub returns : goal.returns
returns c =
    let n = c.args.n in
    let h = c.ranges.n in
    ap₂ (λ (high low : ℤ). add binary32 (mul binary32 (of_int binary32 high) weight) (of_int binary32 low))
    (ap (λ (z : ℤ). to_z w16 (of_z w16 z)) (shifted n h) ∙ to_z-of_z w16 _ (high_fits n h))
    (ap (λ (z : ℤ). pos (nat_abs z)) (masked _) ∙ ap pos (low_of n h))
    ∙ joined n h.sfits
