-- `open` and `finish` have one answer each; `wrap` has one answer, and leaves one buffer.
use mathlib.Core.Path.{sym, ◌∙◌}
use Rattle.refusals.proofs.Unique.{consumed-unique}
use Rattle.packer.proofs.Unique.{packed-unique}
use Rattle.frame.specs.OneAnswer.{OneAnswer}

pub one_answer : OneAnswer
one_answer =
    record {
      opens = λ s a b v w. consumed-unique a b (v ∙ sym w);
      finishes = λ s n a b v w. consumed-unique a b (v ∙ sym w);
      wraps = λ n buffer a b after other v w. (packed-unique a b (v.answer ∙ sym w.answer), v.holds ∙ sym w.holds);
    }
