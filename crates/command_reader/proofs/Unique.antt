-- What `read_command` and `write_command` promise leaves one answer, and one buffer.
use mathlib.Core.Path.{sym, ◌∙◌}
use mathlib.Core.List.{List}
use Prim.Native.Nat.{ℕ}
use Rattle.refusals.specs.Refusals.{write_back_refusal}
use Rattle.refusals.specs.OneAnswer.{OnlyOne, ToldApart}
use Rattle.refusals.proofs.Unique.{consumed-unique, answer-back, write_back_back, write-back-back}
use Rattle.refusals.proofs.Different.{none}
use Rattle.refusals.proofs.Answers.{given-same}
use Rattle.std.specs.Prelude.{Ok, Err}
use Rattle.raw_command.proofs.Unique as raw
use Rattle.command_reader.specs.Reader.{ReadIs}
use Rattle.command_reader.specs.Writer.{written_again}
use Rattle.command_reader.specs.declared.CommandRead.{CommandRead}
use Rattle.command_reader.specs.Laws.{OneAnswer}

-- by the count, the command and the hops of each
read-unique : (s : List ℕ) → OnlyOne (ReadIs s)
read-unique s (Ok a) (Ok b) v w =
    let count = given-same (v.answer ∙ sym w.answer) in
    let command = (raw.one_answer).plain a.command b.command (v.command ∙ sym w.command) in
    let hops = v.hops ∙ sym w.hops in
    λ i. Ok (record { count = count i; command = command i; hops = hops i })
read-unique s (Ok a) (Err e) v w = let both = v.answer ∙ sym w.answer in none (cc)
read-unique s (Err d) (Ok b) v w = let both = v.answer ∙ sym w.answer in none (cc)
read-unique s (Err d) (Err e) v w = consumed-unique {A = CommandRead} (Err d) (Err e) (let both = v.answer ∙ sym w.answer in cc)

written-unique : ToldApart written_again
written-unique = answer-back write_back_refusal write_back_back write-back-back

pub one_answer : OneAnswer
one_answer =
    record {
      read-command = read-unique;
      write-command = λ hops command l r q after other v w. (written-unique r q (v.answer ∙ sym w.answer), v.holds ∙ sym w.holds);
    }
