-- `write_reply` has one answer, and leaves one buffer.
use mathlib.Core.Path.{sym, ◌∙◌}
use Rattle.refusals.specs.Refusals.{reply_write_refusal}
use Rattle.refusals.proofs.Unique.{answer-back, reply_write_back, reply-write-back}
use Rattle.reply_writer.specs.Laws.{OneAnswer}

pub one_answer : OneAnswer
one_answer =
    record {
      write-reply = λ reply l a b after other v w.
          (answer-back reply_write_refusal reply_write_back reply-write-back a b (v.answer ∙ sym w.answer), v.holds ∙ sym w.holds);
    }
