-- What `decode` says to a reader of the stream. Document 01, "The stream": "A good frame is one that `decode` accepts at its first byte".
use Rattle.stream.specs.Reading.{Judge}
use Rattle.stream.specs.Judging.{judge_by}
use Rattle.reply.specs.declared.CommandReply.{CommandReply}
use Rattle.reply.specs.Decode.{decode_of}

-- the judge of the stream: `decode` of the bytes from a position on
unfoldable pub decode_judge : Judge CommandReply
decode_judge = judge_by (λ bytes. (decode_of bytes).answer) (λ bytes. (decode_of bytes).reply)
