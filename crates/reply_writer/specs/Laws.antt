-- What writing a raw reply comes to: beside the raw reader, beside `decode`, and in a stream. One law for all seven replies, over their layouts and field tables.
use Rattle.std.specs.Prelude.{Result, Ok, ◌≡◌, true, List, ◌++◌, ℕ, ◌≤◌, length, take, drop}
use Rattle.refusals.specs.Refusals.{ok}
use Rattle.refusals.specs.declared.ReplyWriteError.{ReplyWriteError}
use Rattle.refusals.specs.OneAnswer.{OnlyBoth}
use Rattle.packer.specs.Nearness.{Bytes}
use Rattle.tables.specs.Bits.{KnownBits}
use Rattle.judge.specs.Judge.{judge_of}
use Rattle.reply.specs.Decode.{decode_of}
use Rattle.raw_reply.specs.RawReply.{cleared, reply_from}
use Rattle.raw_reply.specs.Reading.{Read, raw_read_of}
use Rattle.raw_reply.specs.Laws.{RecordFits, InForm}
use Rattle.raw_reply.specs.declared.RawReply.{RawReply}
use Rattle.reply_writer.specs.Writer.{known_mask, written_reply, WriteIs}

-- an answer with its raw reply, and with its reply
abbrev pub read_as : ℕ → RawReply → Read
read_as count r = record { answer = ok count; reply = r }

-- r was written into a buffer, a frame of so many bytes, and `after` is what the buffer then holds
abbrev pub WroteFrame : RawReply → ℕ → List ℕ → Type 0
WroteFrame r count after = (buffer : List ℕ) × WriteIs r buffer (Ok count) after

pub record WriterLaws : Type 0 where
  -- "8 UnknownMaskBits": the masks that are not refused are those without a bit above their table's, 21 or 10
  pub known : KnownBits
  -- "write and read undo each other": reading what was written gives the record back, if it is in the reader's form
  pub reads-written : (r : RawReply) → RecordFits r → InForm r → (count : ℕ) (after : List ℕ) → WroteFrame r count after → raw_read_of after ≡ read_as count r
  -- of any other record, what the reader's form leaves of it: absent fields, and the records of other kinds, are not sent
  pub reads-cleared : (r : RawReply) → RecordFits r → (count : ℕ) (after : List ℕ) → WroteFrame r count after → raw_read_of after ≡ read_as count (cleared r)
  -- writing what was read gives the same frame, "for frames whose masks have no unknown bits", if there is room for it; bytes past it are unchanged
  pub writes-read : (s : List ℕ) → Bytes s → (count : ℕ) → (raw_read_of s).answer ≡ ok count → known_mask (raw_read_of s).reply ≡ true
      → (buffer after : List ℕ) (w : Result ℕ ReplyWriteError) → count ≤ length buffer → WriteIs (raw_read_of s).reply buffer w after
      → (written_reply w ≡ ok count) × (after ≡ take count s ++ drop count buffer)
  -- "`decode` of a written frame gives the floats of document 01", and its names: those of the record's own numbers and bytes
  pub decoded : (r : RawReply) → RecordFits r → (count : ℕ) (after : List ℕ) → WroteFrame r count after
      → decode_of after ≡ record { answer = ok count; reply = reply_from (cleared r) }
  -- so the frame is good in the sense of the stream, "one that `decode` accepts at its first byte"; and it has at most 110 bytes
  pub good : (r : RawReply) → RecordFits r → (count : ℕ) (after : List ℕ) → WroteFrame r count after → (judge_of after ≡ ok count) × (count ≤ 110)

pub record OneAnswer : Type 0 where
  pub write-reply : (r : RawReply) (l : List ℕ) → OnlyBoth (WriteIs r l)
