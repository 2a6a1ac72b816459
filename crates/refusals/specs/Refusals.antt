-- Document 01, "Six refusals": each has a number, and values that are returned with it. Document 02 adds 7 to 16: a line each here, with the
-- request that brings it.
use Rattle.std.specs.Prelude.{ℕ, List, [], ◌∷◌, Result, Ok, Err}
use Rattle.refusals.specs.declared.DecodeError.{DecodeError}
use Rattle.refusals.specs.declared.DecodeError.TheVariants.{IncompleteData, InvalidFrame, UnknownPacket, ChecksumMismatch}
use Rattle.refusals.specs.declared.EncodeError.{EncodeError}
use Rattle.refusals.specs.declared.EncodeError.TheVariants.{BufferTooSmall, PayloadTooLong}
use Rattle.refusals.specs.declared.WriteBackError.{WriteBackError}
use Rattle.refusals.specs.declared.WriteBackError.TheVariants as w
use Rattle.refusals.specs.declared.ReplyWriteError.{ReplyWriteError}
use Rattle.refusals.specs.declared.ReplyWriteError.TheVariants as r
use Rattle.refusals.specs.declared.FeedError.{FeedError}
use Rattle.refusals.specs.declared.FeedError.TheVariants.{NotDrained}

-- a refusal: document 01's number, and the values returned with it
pub record Refusal : Type 0 where
  pub number : ℕ
  pub values : List ℕ

-- 1 IncompleteData: nothing
abbrev pub incomplete_data : Refusal
incomplete_data = record { number = 1; values = [] }

-- 2 InvalidFrame: nothing
abbrev pub invalid_frame : Refusal
invalid_frame = record { number = 2; values = [] }

-- 3 UnknownPacket: the id byte
abbrev pub unknown_packet : ℕ → Refusal
unknown_packet id = record { number = 3; values = id ∷ [] }

-- 4 ChecksumMismatch: expected = the two bytes carried, actual = the sum computed
abbrev pub checksum_mismatch : ℕ → ℕ → Refusal
checksum_mismatch expected actual = record { number = 4; values = expected ∷ actual ∷ [] }

-- 5 BufferTooSmall: nothing; buffer unchanged
abbrev pub buffer_too_small : Refusal
buffer_too_small = record { number = 5; values = [] }

-- 6 PayloadTooLong (added): nothing; buffer unchanged
abbrev pub payload_too_long : Refusal
payload_too_long = record { number = 6; values = [] }

-- 7 BadName (W4): nothing; buffer unchanged
abbrev pub bad_name : Refusal
bad_name = record { number = 7; values = [] }

-- 8 UnknownMaskBits (W4): nothing; buffer unchanged
abbrev pub unknown_mask_bits : Refusal
unknown_mask_bits = record { number = 8; values = [] }

-- 15 NotDrained (W12): nothing; nothing changed
abbrev pub not_drained : Refusal
not_drained = record { number = 15; values = [] }

-- what a call answers: a value, or a refusal
pub data Answer (A : Type 0) : Type 0 where
  ok : A → Answer A
  refused : Refusal → Answer A

-- the refusals of reading
abbrev pub decode_refusal : DecodeError → Refusal
decode_refusal IncompleteData = incomplete_data
decode_refusal InvalidFrame = invalid_frame
decode_refusal (UnknownPacket id) = unknown_packet id
decode_refusal (ChecksumMismatch expected actual) = checksum_mismatch expected actual

-- what a call returns: its value, or the refusal that its error stands for
abbrev pub answer_by : {A E : Type 0} → (E → Refusal) → Result A E → Answer A
answer_by refusal_of (Ok value) = ok value
answer_by refusal_of (Err error) = refused (refusal_of error)

-- what was read, or the refusal
abbrev pub consumed : {A : Type 0} → Result A DecodeError → Answer A
consumed result = answer_by decode_refusal result

-- the refusals of writing
abbrev pub encode_refusal : EncodeError → Refusal
encode_refusal BufferTooSmall = buffer_too_small
encode_refusal PayloadTooLong = payload_too_long

-- the refusals of writing a command back
abbrev pub write_back_refusal : WriteBackError → Refusal
write_back_refusal w.InvalidFrame = invalid_frame
write_back_refusal w.PayloadTooLong = payload_too_long
write_back_refusal w.BufferTooSmall = buffer_too_small

-- the refusals of writing a reply
abbrev pub reply_write_refusal : ReplyWriteError → Refusal
reply_write_refusal r.UnknownMaskBits = unknown_mask_bits
reply_write_refusal r.BadName = bad_name
reply_write_refusal r.BufferTooSmall = buffer_too_small

-- the refusals of the gateway feed
abbrev pub feed_refusal : FeedError → Refusal
feed_refusal NotDrained = not_drained
