-- `decode`: what a slice is judged to be, and the reply of a good frame. Document 01, "The envelope".
use Rattle.std.specs.Prelude.{ℕ, List, Result, Ok, Err}
use Rattle.refusals.specs.Refusals.{Answer, ok, refused, decode_refusal}
use Rattle.refusals.specs.declared.DecodeError.{DecodeError}
use Rattle.frame.specs.Frame.{short, payload_in}
use Rattle.judge.specs.Judge.{judge_of}
use Rattle.reply.specs.Reply.{reply_of, empty_reply}
use Rattle.reply.specs.declared.CommandReply.{CommandReply}

-- an answer with its reply
pub record Decode : Type 0 where
  pub answer : Answer ℕ
  pub reply : CommandReply

-- the reply of the frame that s starts with: its payload carries it
unfoldable pub reply_in : List ℕ → CommandReply
reply_in s = reply_of (payload_in short s)

-- the reply of a good frame; "all of them on a refusal .. hold zeros"
unfoldable pub reply_by : Answer ℕ → List ℕ → CommandReply
reply_by (ok count) s = reply_in s
reply_by (refused why) s = empty_reply

unfoldable pub decode_of : List ℕ → Decode
decode_of s = record { answer = judge_of s; reply = reply_by (judge_of s) s }

-- what `decode` answers: the count of a good frame with its reply, or the refusal with the empty one
abbrev pub decoded : Result (ℕ × CommandReply) DecodeError → Decode
decoded (Ok (count, reply)) = record { answer = ok count; reply = reply }
decoded (Err error) = record { answer = refused (decode_refusal error); reply = empty_reply }
