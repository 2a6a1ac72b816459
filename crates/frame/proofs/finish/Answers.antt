-- `frame::finish` meets its contract: the end byte stands behind the sum, and then the sum is judged.
use mathlib.Core.Path.{sym, ap, ◌∙◌}
use Prim.Native.Nat.{ℕ}
use native.Mathlib.Omega.{arith}
use lib.ListN.{get_or}
use Rattle.frame.proofs.Endings.{after-sum, end-right}
use Rattle.frame.proofs.finish.Goals as goal

pub returns-in-Some-eq3 : goal.returns-in-Some-eq3
returns-in-Some-eq3 c =
    let last = after-sum c.args.buf.now c.args.n _ c.in_ok-expected.ensures in
    let byte = c.in-Some-eq3.ensures.lookup.3 in
    c.judge_sum.ensures
    ∙ end-right _ _ _ c.in_ok-expected.ensures (omega (arith, last, byte.0))
    (ap (λ (at : ℕ). get_or c.args.buf.now at 0) (sym last) ∙ sym (byte.1 0) ∙ c.in-Some-eq3.field-0-test)
