-- `raw_reply::raw_from` meets its contract.
use Rattle.std.proofs.Common.{rules, tests}
use Rattle.raw_reply.specs.RawReply.{raw_as, raw_reply_of}
use Rattle.raw_reply.proofs.raw_from.Goals as goal

pub returns-in-0 : goal.returns-in-0
unfolding raw_reply_of
returns-in-0 c = rw (← c.byte_at.ensures, c.in-0.is) c.unpack_fw_version.ensures

pub returns-in-4 : goal.returns-in-4
unfolding raw_reply_of
returns-in-4 c = rw (← c.byte_at.ensures, c.in-4.is) c.unpack_get_values.ensures

pub returns-in-50 : goal.returns-in-50
unfolding raw_reply_of
returns-in-50 c = rw (← c.byte_at.ensures, c.in-50.is) c.unpack_get_values_selective.ensures

pub returns-in-51 : goal.returns-in-51
unfolding raw_reply_of
returns-in-51 c = rw (← c.byte_at.ensures, c.in-51.is) c.unpack_get_values_setup_selective.ensures

pub returns-in-128 : goal.returns-in-128
unfolding raw_reply_of
returns-in-128 c = rw (← c.byte_at.ensures, c.in-128.is) c.unpack_get_stats.ensures

pub returns-in-129 : goal.returns-in-129
unfolding raw_reply_of raw_as
returns-in-129 c = rw (← c.byte_at.ensures, c.in-129.is) c.blank.ensures

pub returns-in-157 : goal.returns-in-157
unfolding raw_reply_of
returns-in-157 c = rw (← c.byte_at.ensures, c.in-157.is) c.unpack_fw_info.ensures

pub returns-in_default : goal.returns-in_default
unfolding raw_reply_of
returns-in_default c = search (tests, rules)
