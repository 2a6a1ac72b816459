-- The reader into a raw reply. Document 02, W4: "a reader into it that refuses exactly as `decode` does".
use Rattle.std.specs.Prelude.{ℕ, List, Result, Ok, Err}
use Rattle.refusals.specs.Refusals.{Answer, ok, refused, decode_refusal}
use Rattle.refusals.specs.declared.DecodeError.{DecodeError}
use Rattle.frame.specs.Frame.{short, payload_in}
use Rattle.judge.specs.Judge.{judge_of}
use Rattle.raw_reply.specs.RawReply.{empty_raw, raw_reply_of}
use Rattle.raw_reply.specs.declared.RawReply.{RawReply}

-- an answer with its raw reply
pub record Read : Type 0 where
  pub answer : Answer ℕ
  pub reply : RawReply

-- the raw reply of a good frame, which its payload carries; the empty one beside a refusal
unfoldable pub raw_in : Answer ℕ → List ℕ → RawReply
raw_in (ok count) s = raw_reply_of (payload_in short s)
raw_in (refused why) s = empty_raw

-- the answer is that of `decode`: `judge_of` (reply/specs/Decode.antt)
unfoldable pub raw_read_of : List ℕ → Read
raw_read_of s = record { answer = judge_of s; reply = raw_in (judge_of s) s }

-- what `read_reply` returns: the count of a good frame with its raw reply, or the refusal with the empty one
abbrev pub raw_read : Result (ℕ × RawReply) DecodeError → Read
raw_read (Ok (count, reply)) = record { answer = ok count; reply = reply }
raw_read (Err error) = record { answer = refused (decode_refusal error); reply = empty_raw }
