-- The one claim of the table: every row holds, by computing it.
use mathlib.Core.Path.{refl}
use lib.Ieee.{mul, round, to_signed, of_int, div, of_bits}
use Rattle.checksum.specs.Xmodem.{bring_down, remainder, bits_of_byte, bits_of, checksum_of}
use Rattle.floats.specs.Numbers.{over_scale, times_scale}
use Rattle.packer.specs.Numbers.{be_at, big_endian, signed_of, unsigned_of, total, numbers_at}
use Rattle.packer.specs.Unpacking.{read_at, consume_at}
use Rattle.names.specs.Names.{nul_within}
use Rattle.frame.specs.Frame.{frame_of, declared, payload_in}
use Rattle.frame.specs.Opening.{byte_at, payload_part, judge_sum_of, finish_of}
use Rattle.frame.specs.Wrapping.{wrap_answer, wrap_after}
use Rattle.encode.specs.Payload.{hop_bytes, payload_of}
use Rattle.tables.specs.Tables.{has_bit, takes, widths}
use Rattle.codes.specs.Codes.{fault_of}
use Rattle.telemetry.specs.Telemetry.{values_with, values_of}
use Rattle.layout.specs.Layout.{extent_of, extent, raw_of, raws}
use Rattle.layout.specs.Replies.{layout_in, fields_end}
use Rattle.judge.specs.Judge.{judge_of}
use Rattle.reply.specs.Reply.{blank_of, empty_reply, reply_of}
use Rattle.reply.specs.Decode.{reply_in, reply_by, decode_of}
use Rattle.vesc.specs.Frames.{All, p_frames}

pub p-frames : All p_frames
unfolding
    mul round to_signed of_int div of_bits bring_down remainder bits_of_byte bits_of checksum_of over_scale times_scale be_at big_endian signed_of unsigned_of total numbers_at read_at
    consume_at nul_within hop_bytes payload_of frame_of declared payload_in wrap_answer wrap_after has_bit takes widths fault_of values_with values_of extent_of extent raw_of raws layout_in
    fields_end byte_at payload_part judge_sum_of finish_of judge_of blank_of empty_reply reply_of reply_in reply_by decode_of
p-frames =
    ((refl, refl), ((refl, refl), ((refl, refl), (refl, (refl, ((refl, refl), ((refl, refl), ((refl, refl), ((refl, refl), ((refl, refl), ((refl, refl), ((refl, refl), ((refl, refl), ((refl, refl), ((refl, refl), ((refl, refl), ((refl, refl, refl, refl), tt)))))))))))))))))
