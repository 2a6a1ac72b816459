-- The envelope, document 01: what a list of bytes is judged to be. "`decode` reads from the left and answers at the first trouble." The order is
-- that of its section; what follows an id is described in crate `layout`, the parts and the end of a frame in crate `frame`.
use Rattle.std.specs.Prelude.{ℕ, List, eqb, drop}
use Rattle.refusals.specs.Refusals.{Answer, invalid_frame}
use Rattle.refusals.specs.Answers.{and_then, unless}
use Rattle.format.specs.Format.{frame_start, payload_at}
use Rattle.frame.specs.Opening.{byte_at, finish_of}
use Rattle.layout.specs.Replies.{fields_end}

-- "Order: start byte (2 if wrong); length byte, not judged yet; id ..; the fields ..; length byte against bytes read (2)", and so on. "The declared
-- length never limits field reading": they are read in all that follows byte 2, and end as many bytes on as were read. "later bytes don't matter"
unfoldable pub judge_of : List ℕ → Answer ℕ
judge_of s =
    and_then (byte_at s 0) (λ start.
    unless (eqb start frame_start) invalid_frame
    (and_then (byte_at s 1) (λ n.
    and_then (byte_at s payload_at) (λ id.
    and_then (fields_end id (drop payload_at s) 1) (λ read.
    unless (eqb n read) invalid_frame
    (finish_of s n))))))
