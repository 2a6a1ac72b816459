-- What `encode` answers, and what the whole buffer then holds: those of wrapping the payload, as crate `frame` describes it.
use Rattle.std.specs.Prelude.{◌≡◌, List, ℕ, Result, length}
use Rattle.refusals.specs.Refusals.{Answer, answer_by, encode_refusal}
use Rattle.refusals.specs.declared.EncodeError.{EncodeError}
use Rattle.frame.specs.Wrapping.{wrap_answer, wrap_after}
use Rattle.encode.specs.Payload.{payload_of}
use Rattle.command.specs.declared.Command.{Command}

-- the answer's number and values in document 01
abbrev pub encoded : Result ℕ EncodeError → Answer ℕ
encoded result = answer_by encode_refusal result

-- encoding the command behind the hops into the buffer l: `r` is answered, and `after` is what the buffer then holds
pub record EncodeIs (command : Command) (hops l : List ℕ) (r : Result ℕ EncodeError) (after : List ℕ) : Type 0 where
  pub answer : encoded r ≡ wrap_answer (length (payload_of command hops)) (length l)
  pub holds : after ≡ wrap_after (payload_of command hops) l
