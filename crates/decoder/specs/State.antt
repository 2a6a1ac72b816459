-- A decoder's state, and what each call hands back. Document 01, "The stream" and "Port order and change of shape": "a state with its 512-byte
-- buffer, handed in and handed back by each call". What the calls do to the buffer is defined in crate `buffer`.
use Rattle.std.specs.Prelude.{Bool, true, false, cond, ◌&&◌, List, ◌≡◌, ℕ, ◌-◌, ◌≤◌, ltb, length, Option, Some, None, Result}
use Rattle.std.proofs.Math.Seq.{slice}
use Rattle.refusals.specs.Refusals.{Answer, answer_by, feed_refusal}
use Rattle.format.specs.Format.{capacity, drained_most}
use Rattle.stream.specs.Searching.{Search, found_at, nothing_at}
use Rattle.buffer.specs.Buffer.{Buffer, fresh, feed_count, fed_buffer, gateway_answer, gateway_count, gateway_buffer, next_given, next_count, next_reply, next_buffer}
use Rattle.refusals.specs.declared.FeedError.{FeedError}
use Rattle.reply.specs.declared.CommandReply.{CommandReply}
use Rattle.reply.specs.Reply.{empty_reply}
use Rattle.reply.specs.Decode.{reply_in}
use Rattle.decoder.specs.declared.Decoder.{Decoder}
use Rattle.decoder.specs.declared.Fed.{Fed}
use Rattle.decoder.specs.declared.GatewayFed.{GatewayFed}
use Rattle.decoder.specs.declared.Next.{Next}
use Rattle.decoder.specs.declared.Figures.{Figures}
use Rattle.decoder.specs.Judge.{decode_judge}

-- the buffer, by the fields: unread are the bytes from the read position to the write position
abbrev pub fields_buffer : Decoder → Buffer
fields_buffer d =
    record {
      unread = slice d.rpos d.wpos d.buf;
      wpos = d.wpos;
      fed = d.fed;
      handed = d.handed;
      passed = d.passed;
      cleared = d.cleared;
      drained = d.drained;
    }

-- "A state no calls can make, its read position past its write position or that one past 512, is taken as a fresh one". Document 02, W12: "A state marked
-- drained with over 109 bytes unread joins those taken as fresh", and besides, "for a state handed in the mark decides"
unfoldable pub buffer_of : Decoder → Buffer
buffer_of d =
    cond (ltb capacity d.wpos) fresh
    (cond (ltb d.wpos d.rpos) fresh (cond (d.drained && ltb drained_most (d.wpos - d.rpos)) fresh (fields_buffer d)))

-- a state that is none of those
pub record Sound (d : Decoder) : Type 0 where
  pub low : d.rpos ≤ d.wpos
  pub high : d.wpos ≤ capacity
  pub long : length d.buf ≡ capacity
  pub few : d.drained ≡ true → d.wpos - d.rpos ≤ drained_most

-- such a state, with the buffer that it holds
pub record BufferIs (buffer : Buffer) (d : Decoder) : Type 0 where
  pub is : buffer_of d ≡ buffer
  pub sound : Sound d

-- what `feed` hands back
pub record FeedIs (self : Decoder) (piece : List ℕ) (r : Fed) : Type 0 where
  pub count : r.count ≡ feed_count (buffer_of self) piece
  pub after : BufferIs (fed_buffer (buffer_of self) piece) r.decoder

-- the bytes that the gateway feed took, or the refusal
abbrev pub taken_answer : Result ℕ FeedError → Answer ℕ
taken_answer result = answer_by feed_refusal result

-- what `gateway_feed` hands back
pub record GatewayFeedIs (self : Decoder) (piece : List ℕ) (r : GatewayFed) : Type 0 where
  pub answer : taken_answer r.answer ≡ gateway_answer (buffer_of self) piece
  pub after : BufferIs (gateway_buffer (buffer_of self) piece) r.decoder
  -- "changes nothing", "nothing changed": where no byte is taken, no unused byte is another either. A state that no calls can make is taken as a fresh
  -- one, and comes back as such
  pub unchanged : Sound self → gateway_count (buffer_of self) piece ≡ 0 → r.decoder ≡ self

-- what `next` gives: whether there is a reply, the bytes of its frame, and the reply. Where there is none, 0 and the empty reply
abbrev pub is_given : Option (ℕ × CommandReply) → Bool
is_given (Some frame) = true
is_given None = false

abbrev pub count_given : Option (ℕ × CommandReply) → ℕ
count_given (Some (count, reply)) = count
count_given None = 0

abbrev pub reply_given : Option (ℕ × CommandReply) → CommandReply
reply_given (Some (count, reply)) = reply
reply_given None = empty_reply

-- what `next` hands back
pub record NextIs (self : Decoder) (r : Next) : Type 0 where
  pub given : is_given r.given ≡ next_given decode_judge (buffer_of self)
  pub count : count_given r.given ≡ next_count decode_judge (buffer_of self)
  pub reply : reply_given r.given ≡ next_reply decode_judge empty_reply (buffer_of self)
  pub after : BufferIs (next_buffer decode_judge (buffer_of self)) r.decoder

-- "held, unread now"
abbrev pub held_of : Buffer → ℕ
held_of buffer = length buffer.unread

-- the five line figures
abbrev pub figures_of : Buffer → Figures
figures_of buffer = record { fed = buffer.fed; handed = buffer.handed; passed = buffer.passed; cleared = buffer.cleared; held = held_of buffer }

-- the search that two numbers tell of: bytes moved over, and the count of the frame behind them
abbrev pub search_of : List ℕ → ℕ × Option ℕ → Search CommandReply
search_of unread (over, Some count) = found_at reply_in unread over count
search_of unread (over, None) = nothing_at unread over
