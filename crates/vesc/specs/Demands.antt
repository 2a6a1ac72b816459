-- The three demands of the person we build for, and two of document 02's requests, each with its words, as a record
-- whose fields are the claims. They are claims about whatever meets the contracts of the public functions, and about
-- the definitions that these contracts cite. proofs/Demands.antt and proofs/Readings.antt prove each record.
-- docs/FORMAT.md has document 01's rules in our words, and the glossary; README.md has the notation.
use Rattle.std.specs.Prelude.{◌≡◌, Bool, true, ◌↔◌, List, [], ◌∷◌, ◌++◌, ℕ, ◌+◌, ◌-◌, ◌^◌, ◌≤◌, ◌<◌, ℤ, Result, Ok, Err, length, drop}
use Rattle.std.specs.Float.{binary32}
use Rattle.std.specs.Float.Ieee.{of_int}
use Rattle.refusals.specs.Refusals.{Answer, ok, refused, incomplete_data, invalid_frame, unknown_packet, checksum_mismatch}
use Rattle.refusals.specs.Refusals.{buffer_too_small, payload_too_long}
use Rattle.refusals.specs.declared.EncodeError.{EncodeError}
use Rattle.refusals.specs.declared.DecodeError.{DecodeError}
use Rattle.checksum.specs.Xmodem.{checksum_of, register_of}
use Rattle.floats.specs.Near.{ReadingNear, size}
use Rattle.floats.specs.Nearest.{NearestEven}
use Rattle.text.specs.Utf8.{well_formed, WellFormed}
use Rattle.text.specs.Text.{has_text, text_of, TextOfName}
use Rattle.packer.specs.Nearness.{Bytes}
use Rattle.encode.specs.Payload.{payload_of}
use Rattle.encode.specs.Encode.{EncodeIs, encoded}
use Rattle.command.specs.declared.Command.{Command}
use Rattle.format.specs.Format.{frame_start, frame_end, payload_at, frame_extra, payload_max}
use Rattle.frame.specs.Frame.{short, frame_size, start_byte, declared, payload_in, carried, end_byte}
use Rattle.layout.specs.Replies.{replies, NoneOf, fields_end}
use Rattle.judge.specs.Good.{id_byte, GoodFrame}
use Rattle.reply.specs.Decode.{decode_of, decoded}
use Rattle.reply.specs.Nearness.{RecordsNear}
use Rattle.reply.specs.Records.{RecordsOf}
use Rattle.tables.specs.Bits.{AskedBits}
use Rattle.reply.specs.Reply.{empty_reply}
use Rattle.reply.specs.declared.CommandReply.{CommandReply}
use Rattle.stream.specs.Reading.{Reading, read_all, Reads, replies_of, joined}
use Rattle.stream.specs.Lateness.{InTime}
use Rattle.buffer.specs.Runs.{Nonempty, AskingEnds, Totals}
use Rattle.decoder.specs.declared.Decoder.{Decoder}
use Rattle.decoder.specs.declared.Fed.{Fed}
use Rattle.decoder.specs.declared.GatewayFed.{GatewayFed}
use Rattle.decoder.specs.declared.Figures.{Figures}
use Rattle.decoder.specs.declared.Next.{Next}
use Rattle.decoder.specs.Judge.{decode_judge}
use Rattle.decoder.specs.State.{buffer_of, held_of, figures_of, FeedIs, taken_answer, GatewayFeedIs, reply_given, NextIs}
use Rattle.decoder.specs.Runs.{Run, PlainRun, Ends, InUse, Reached, figures_by}
use Rattle.decoder.specs.Runs.{gateway_calls, GatewayRun, PlainGatewayRun, InTurn, GatewayEnds, GatewayReached}

-- "1. No call traps, hangs or relies on its caller. IncompleteData, InvalidFrame, UnknownPacket, ChecksumMismatch,
-- BufferTooSmall and PayloadTooLong come exactly when document 01 says. A refused encode writes nothing."
-- The check of each crate proves that a function neither traps nor hangs if its `requires` holds, and no public function
-- has a `requires` (`make test` looks). The stack is not bounded by a theorem (README.md). The claims here are about
-- `encode` and `decode`; the contracts of `judge`, of the readers and of the writers say directly when they refuse.

-- `encode` of a command behind hops returned r, and `after` is what the buffer then holds
pub record EncodeRefuses (command : Command) (hops buffer : List ℕ) (r : Result ℕ EncodeError) (after : List ℕ) : Type 0 where
  pub too_long : (encoded r ≡ refused payload_too_long) ↔ (payload_max < length (payload_of command hops))
  pub too_small
      : (encoded r ≡ refused buffer_too_small)
      ↔ ((length (payload_of command hops) ≤ payload_max) × (length buffer < length (payload_of command hops) + frame_extra))
  pub fits
      : (encoded r ≡ ok (length (payload_of command hops) + frame_extra))
      ↔ ((length (payload_of command hops) ≤ payload_max) × (length (payload_of command hops) + frame_extra ≤ length buffer))
  pub unchanged : (e : EncodeError) → r ≡ Err e → after ≡ buffer

-- where the fields that follow the id end: they are read in all that follows it, by the reply's layout (layout/specs/Replies.antt)
abbrev pub fields_read : List ℕ → Answer ℕ
fields_read s = fields_end (id_byte s) (drop payload_at s) 1

-- the sum of the payload
abbrev pub summed : List ℕ → ℕ
summed s = checksum_of (payload_in short s)

-- the start byte is right, and the fields end where the length says
pub record Fields (s : List ℕ) : Type 0 where
  pub there : payload_at < length s
  pub start : start_byte short s ≡ frame_start
  pub read : fields_read s ≡ ok (declared short s)

-- The ways that `decode` of a slice s can go, in document 01's order. `declared short s` is document 01's n; the other parts of a frame
-- are in frame/specs/Frame.antt, and what makes it a good one in judge/specs/Good.antt.
pub data Way (s : List ℕ) : Type 0 where
  no_start : length s ≤ 0 → Way s
  start-wrong : 0 < length s → (start_byte short s ≡ frame_start → ⊥) → Way s
  no_length : 0 < length s → start_byte short s ≡ frame_start → length s ≤ 1 → Way s
  no-id : 1 < length s → start_byte short s ≡ frame_start → length s ≤ payload_at → Way s
  -- "id (3 if not one of the seven replies, known command ids included)"
  unknown-id : payload_at < length s → start_byte short s ≡ frame_start → NoneOf replies (id_byte s) → Way s
  -- "A read past the end of the slice is 1"; "2 for a name without NUL"
  no_field : payload_at < length s → start_byte short s ≡ frame_start → fields_read s ≡ refused incomplete_data → Way s
  no_nul : payload_at < length s → start_byte short s ≡ frame_start → fields_read s ≡ refused invalid_frame → Way s
  length-wrong
      : payload_at < length s → start_byte short s ≡ frame_start → (read : ℕ) → fields_read s ≡ ok read → (declared short s ≡ read → ⊥) → Way s
  -- the fields end where the length says; then "two checksum bytes; end byte (2); checksum (4)"
  no_end : Fields s → length s < frame_size short (declared short s) → Way s
  end-wrong : Fields s → frame_size short (declared short s) ≤ length s → (end_byte short s ≡ frame_end → ⊥) → Way s
  sum-wrong : Fields s → frame_size short (declared short s) ≤ length s → end_byte short s ≡ frame_end → (carried short s ≡ summed s → ⊥) → Way s
  good : GoodFrame s → Way s

-- and what it then answers
abbrev pub answer_of : {s : List ℕ} → Way s → Answer ℕ
answer_of (no_start h) = refused incomplete_data
answer_of (start-wrong h differs) = refused invalid_frame
answer_of (no_length h start past) = refused incomplete_data
answer_of (no-id h start past) = refused incomplete_data
answer_of {s} (unknown-id h start none_of) = refused (unknown_packet (id_byte s))
answer_of (no_field h start e) = refused incomplete_data
answer_of (no_nul h start e) = refused invalid_frame
answer_of (length-wrong h start read e differs) = refused invalid_frame
answer_of (no_end f past) = refused incomplete_data
answer_of (end-wrong f there differs) = refused invalid_frame
answer_of {s} (sum-wrong f there end differs) = refused (checksum_mismatch (carried short s) (summed s))
answer_of {s} (good frame) = ok (frame_size short (declared short s))

-- `decode` of a slice s returned d, whose answer and reply `decoded d` has. The slice goes one of the ways, and d's answer is the one of each way that it goes:
-- so each refusal comes exactly when document 01 says.
pub record DecodeRefuses (s : List ℕ) (d : Result (ℕ × CommandReply) DecodeError) : Type 0 where
  pub goes : Way s
  pub answer : (way : Way s) → (decoded d).answer ≡ answer_of way
  -- "all of them on a refusal": the reply is then the empty one
  pub empty : (e : DecodeError) → d ≡ Err e → (decoded d).reply ≡ empty_reply

pub record DemandOne : Type 0 where
  pub encode
      : (command : Command) (hops buffer : List ℕ) (r : Result ℕ EncodeError) (after : List ℕ) → EncodeIs command hops buffer r after
      → EncodeRefuses command hops buffer r after
  pub decode : (s : List ℕ) (d : Result (ℕ × CommandReply) DecodeError) → decoded d ≡ decode_of s → DecodeRefuses s d

-- "2. Within document 01's domain, bytes, readings and refusals equal the Rust's. Checksum, float rounding and name
-- text are proved against CRC-16/XMODEM, IEEE 754 and Unicode."
-- Bytes, readings and refusals equal the definitions that the contracts cite (docs/PROMISES.md). That the Rust's are
-- the same is tested, not proved (docs/DIFFERENCES.md). The checksum is the remainder of long division by definition.
-- The division of a reading and the multiplication of a writing are `Float.Ieee`'s (of the kit's std): the exact result, rounded by the same
-- `round` as here a whole number. That `Float.Ieee` is IEEE 754 is part of what is believed of the kit.
pub record DemandTwo : Type 0 where
  -- the catalogue's register gives the same sum, and the catalogue's check value is met
  pub checksum : (message : List ℕ) → register_of message ≡ checksum_of message
  pub check-value : checksum_of (0x31 ∷ 0x32 ∷ 0x33 ∷ 0x34 ∷ 0x35 ∷ 0x36 ∷ 0x37 ∷ 0x38 ∷ 0x39 ∷ []) ≡ 0x31C3
  -- No binary32 is nearer to a whole number than the one that it becomes before the division, and at a tie it is
  -- the even one
  pub nearest : (raw : ℤ) → size raw ≤ 2 ^ 31 → NearestEven raw (of_int binary32 raw)
  -- "for raw r and scale s the reading is within |r|/s divided by 2^22 of r/s"
  pub rounding : (raw : ℤ) (scale : ℕ) → size raw ≤ 2 ^ 31 → 0 < scale → scale ≤ 2 ^ 24 → ReadingNear raw scale
  -- The same of a record: if `decode` returned a reply for a good frame, each scaled field of its record is that near to the
  -- number that the frame's bytes hold at the field's place, over the scale
  pub readings : (s : List ℕ) → Bytes s → (count : ℕ) (reply : CommandReply) → decoded (Ok (count, reply)) ≡ decode_of s → RecordsNear s reply
  -- Unicode's table 3-7
  pub text : (bytes : List ℕ) → (well_formed bytes ≡ true) ↔ WellFormed bytes
  -- `has_text` and `text` of a name returned `has` and `part`: the name has a text exactly if it has a first NUL and the
  -- bytes before it are well-formed, and the text is then those bytes
  pub name-text : (name : List ℕ) (has : Bool) (part : List ℕ) → has ≡ has_text name → part ≡ text_of name → TextOfName name has part

-- "3. Start the streaming decoder fresh. Hand it nonempty pieces, after each ask until it has no reply, and offer again
-- what it did not take. Then for every stream and every such cutting the replies are those of one left-to-right reading
-- of the uncut stream, in order and no others. A good frame overlapped by no earlier frame of that reading is given,
-- however damaged the bytes before it, once 109 bytes counted from its first, or its own last byte if that is later,
-- have been taken in and asked for."
-- The number proved is 107 (document 02, W13); the sentence with 109 follows. 107 is the least: `no-sooner` says that with 106
-- it would be false, and decoder/specs/Lateness.antt has a stream, a cutting and a good frame that show it.
-- `Run pieces ahead taken replies d` is that use of the decoder, at its start or after some `next` that gave nothing, also
-- one in the middle of a piece: `pieces` is the cutting, `ahead` are the pieces still to be offered, `taken` the bytes
-- taken in so far, `replies` the replies so far, and d is the decoder then. Each call may return whatever its contract
-- allows: `BufferIs fresh` for `new`, `FeedIs` for `feed`, `NextIs` for `next` (decoder/specs/State.antt). `joined pieces` is
-- the uncut stream. `read_all` is defined from `decode` alone. The caller may also ask again, and cut anew what is ahead; in
-- a `PlainRun` it does not.
pub record AsRead (pieces ahead : List (List ℕ)) (taken : List ℕ) (replies : List CommandReply) (d : Decoder) : Type 0 where
  -- the stream is what is taken and then what is ahead
  pub stream : joined pieces ≡ taken ++ joined ahead
  -- the replies so far are those of the reading of what is taken, in order and no others
  pub in_order : replies ≡ replies_of (read_all decode_judge taken).frames
  -- what that reading leaves is unread
  pub unread : (buffer_of d).unread ≡ (read_all decode_judge taken).rest
  -- A good frame overlapped by no earlier one has its reply among the replies, at its place, once its own last byte and 107
  -- bytes counted from its first are taken (stream/specs/Lateness.antt)
  pub in-time : InTime decode_judge 107 (joined pieces) taken replies
  -- and so once 109 are
  pub as-demanded : InTime decode_judge 109 (joined pieces) taken replies

pub record DemandThree : Type 0 where
  -- `read_all` is the one left-to-right reading: what document 01's rule comes to, and nothing else does
  pub by-rule : (stream : List ℕ) (o : Reading CommandReply) → Reads decode_judge 0 stream o ↔ (o ≡ read_all decode_judge stream)
  -- what every run is, at each `next` that gave nothing
  pub as_read : {pieces ahead : List (List ℕ)} {taken : List ℕ} {replies : List CommandReply} {d : Decoder}
      → Run pieces ahead taken replies d → AsRead pieces ahead taken replies d
  -- 107 is the least
  pub no-sooner : ((pieces ahead : List (List ℕ)) (taken : List ℕ) (replies : List CommandReply) (d : Decoder)
      → Run pieces ahead taken replies d → InTime decode_judge 106 (joined pieces) taken replies) → ⊥
  -- Once nothing is ahead, "the replies are those of one left-to-right reading of the uncut stream"
  pub whole : {pieces : List (List ℕ)} {taken : List ℕ} {replies : List CommandReply} {d : Decoder} → Run pieces [] taken replies d
      → replies ≡ replies_of (read_all decode_judge (joined pieces)).frames
  -- Every cutting into nonempty pieces has a run that offers just them, and takes all
  pub exists : (pieces : List (List ℕ)) → Nonempty pieces → (replies : List CommandReply) × (d : Decoder) × PlainRun pieces [] (joined pieces) replies d
  pub plain : {pieces ahead : List (List ℕ)} {taken : List ℕ} {replies : List CommandReply} {d : Decoder}
      → PlainRun pieces ahead taken replies d → Run pieces ahead taken replies d
  -- From any point of any run on, if nothing is cut anew: every call has a result, and whatever the results are, all is
  -- taken in the end
  pub ends : {pieces ahead : List (List ℕ)} {taken : List ℕ} {replies : List CommandReply} {d : Decoder}
      → Run pieces ahead taken replies d → Nonempty ahead → Ends ahead d
  -- because `feed` takes a byte or more of a nonempty piece
  pub takes-some : {pieces ahead : List (List ℕ)} {taken : List ℕ} {replies : List CommandReply} {d : Decoder} → Run pieces ahead taken replies d
      → (piece : List ℕ) (fed : Fed) → 0 < length piece → FeedIs d piece fed → 0 < fed.count

-- Demand 3 on the gateway's path. Document 02, W12: "Demand 3 on this path then allows empty pieces."
-- `GatewayRun pieces ahead taken replies d` is any calls of `gateway_feed` and `next`, in any order, from a fresh decoder on
-- (buffer/specs/Runs.antt, `AnyOrder`). Pieces may be empty, and the caller may put empty ones anywhere. If it offers a piece
-- before `next` gave nothing, the piece is refused, nothing changes, and the piece stays ahead. Each call may return whatever
-- its contract allows: `GatewayFeedIs` for `gateway_feed`. `d.drained` is the decoder's own mark, set by a `next` that gives
-- nothing: the bytes taken are then asked for.
pub record DemandThreeGateway : Type 0 where
  -- At every point the replies so far are the first of the reading of what is taken; the reading of what is unread gives the rest
  pub so_far : {pieces ahead : List (List ℕ)} {taken : List ℕ} {replies : List CommandReply} {d : Decoder} → GatewayRun pieces ahead taken replies d
      → replies ++ replies_of (read_all decode_judge (buffer_of d).unread).frames ≡ replies_of (read_all decode_judge taken).frames
  -- At each point at which the decoder is drained they are all of them, and a good frame has come in time
  pub as_read : {pieces ahead : List (List ℕ)} {taken : List ℕ} {replies : List CommandReply} {d : Decoder}
      → GatewayRun pieces ahead taken replies d → d.drained ≡ true → AsRead pieces ahead taken replies d
  -- 107 is the least here too
  pub no-sooner : ((pieces ahead : List (List ℕ)) (taken : List ℕ) (replies : List CommandReply) (d : Decoder)
      → GatewayRun pieces ahead taken replies d → d.drained ≡ true → InTime decode_judge 106 (joined pieces) taken replies) → ⊥
  -- Once nothing is ahead, "the replies are those of one left-to-right reading of the uncut stream"
  pub whole : {pieces : List (List ℕ)} {taken : List ℕ} {replies : List CommandReply} {d : Decoder}
      → GatewayRun pieces [] taken replies d → d.drained ≡ true
      → replies ≡ replies_of (read_all decode_judge (joined pieces)).frames
  -- The use that demand 3 describes, with empty pieces allowed, is among these calls: `InTurn` offers each piece, asks until nothing
  -- comes, and offers again what was not taken
  pub in-turn : {pieces ahead : List (List ℕ)} {taken : List ℕ} {replies : List CommandReply} {d : Decoder}
      → InTurn pieces ahead taken replies d → GatewayRun pieces ahead taken replies d × (d.drained ≡ true)
  -- Every cutting, into any pieces, has such calls that offer just them, and take all
  pub exists : (pieces : List (List ℕ))
      → (replies : List CommandReply) × (d : Decoder) × PlainGatewayRun pieces [] (joined pieces) replies d × (d.drained ≡ true)
  pub plain : {pieces ahead : List (List ℕ)} {taken : List ℕ} {replies : List CommandReply} {d : Decoder}
      → PlainGatewayRun pieces ahead taken replies d → GatewayRun pieces ahead taken replies d
  -- Asking comes to an end, whatever the decoder. From any point at which it is drained, if each piece is offered and the decoder
  -- then asked: every call has a result, and whatever the results are, all is taken in the end
  pub asking-ends : (d : Decoder) → AskingEnds gateway_calls d
  pub ends : {pieces ahead : List (List ℕ)} {taken : List ℕ} {replies : List CommandReply} {d : Decoder}
      → GatewayRun pieces ahead taken replies d → d.drained ≡ true → GatewayEnds ahead d
  -- because a drained decoder takes a byte or more of a nonempty piece
  pub takes-some : {totals : Totals} {d : Decoder} → Reached totals d → d.drained ≡ true
      → (piece : List ℕ) (r : GatewayFed) → 0 < length piece → GatewayFeedIs d piece r
      → (n : ℕ) × (taken_answer r.answer ≡ ok n) × (0 < n)

-- The line figures. Document 02, W3: "Give cleared its own figure and let passed count only bytes moved over by the reading. From
-- a fresh state on, while fed is below the top value, fed is handed plus passed plus cleared plus held."
-- `Reached totals d`: d comes from a fresh decoder by any calls whatever, of either feed, empty pieces fed too, and `totals` is what
-- these calls copied, gave, moved over and cleared in all (buffer/specs/Runs.antt). `figures` of d returned `figures`. When `feed`
-- clears is in buffer/specs/Clearing.antt.
pub record LineFigures : Type 0 where
  pub balance : {totals : Totals} {d : Decoder} → Reached totals d → (figures : Figures) → figures ≡ figures_of (buffer_of d) → figures.fed < 2 ^ 64 - 1
      → figures.fed ≡ figures.handed + figures.passed + figures.cleared + figures.held
  -- each figure alone: `figures_by totals` has the four totals, each held at the top value
  pub alone : {totals : Totals} {d : Decoder} → Reached totals d → (figures : Figures) → figures ≡ figures_of (buffer_of d)
      → figures ≡ figures_by totals (held_of (buffer_of d))
  -- every byte copied is in one of them, however many there were
  pub account : {totals : Totals} {d : Decoder} → Reached totals d
      → totals.bytes_copied ≡ totals.bytes_given + totals.bytes_moved_over + totals.bytes_cleared + held_of (buffer_of d)
  -- In demand 3's use nothing is cleared: after a `next` that gave nothing, and at every moment between
  pub none-cleared : {asked : Bool} {d : Decoder} → InUse asked d → (figures : Figures) → figures ≡ figures_of (buffer_of d) → figures.cleared ≡ 0
  pub in-runs : {pieces ahead : List (List ℕ)} {taken : List ℕ} {replies : List CommandReply} {d : Decoder} → Run pieces ahead taken replies d → InUse true d
  -- and the decoders of that use are among those that any calls make
  pub in_use : {asked : Bool} {d : Decoder} → InUse asked d → (totals : Totals) × Reached totals d
  -- W12: "for a decoder fed only this way since fresh, cleared is 0 and W3's total stands without it". `GatewayReached totals d`: d
  -- comes from a fresh decoder by any calls of `gateway_feed` and `next`
  pub gateway-none-cleared : {totals : Totals} {d : Decoder} → GatewayReached totals d → (figures : Figures) → figures ≡ figures_of (buffer_of d)
      → figures.cleared ≡ 0
  pub gateway-balance : {totals : Totals} {d : Decoder} → GatewayReached totals d → (figures : Figures) → figures ≡ figures_of (buffer_of d)
      → figures.fed < 2 ^ 64 - 1
      → figures.fed ≡ figures.handed + figures.passed + figures.held
  pub in-gateway-runs : {pieces ahead : List (List ℕ)} {taken : List ℕ} {replies : List CommandReply} {d : Decoder}
      → GatewayRun pieces ahead taken replies d → (totals : Totals) × GatewayReached totals d
  pub gateway-reached : {totals : Totals} {d : Decoder} → GatewayReached totals d → Reached totals d

-- Which readings were there. Document 02, W1: "The desk cannot tell a battery level of zero from one that was not sent. Put the
-- mask as received, unknown bits too, into the telemetry records; GetValues shows all 22 bits, and the statistics record gets
-- its mask too. Every function that makes or shows such a record follows. Demand 2 reads on the other fields as before; the mask
-- is an added field."
-- `RecordsOf s reply` (reply/specs/Records.antt) says of each of the three records, over its table: which mask it has; that every
-- field is what the bytes of s make of it under that mask; and that a field whose bit the mask lacks is zero, a fault code None.
-- A record that the reply's kind does not carry has mask 0.
pub record ReadingsThere : Type 0 where
  -- `decode` of a slice s returned d: a reply, or a refusal with the empty reply
  pub decode : (s : List ℕ) (d : Result (ℕ × CommandReply) DecodeError) → decoded d ≡ decode_of s → RecordsOf s (decoded d).reply
  -- `next` of a decoder d returned r: a reply in the unread bytes, from some place on, or the empty one
  pub next : (d : Decoder) (r : Next) → NextIs d r → (place : ℕ) × RecordsOf (drop place (buffer_of d).unread) (reply_given r.given)
  -- A record's `has` returns true exactly if its mask has the bits that it is asked for (`HasBits`): the field's own bit if that
  -- is asked for alone, each of them if several are joined
  pub asked : AskedBits
