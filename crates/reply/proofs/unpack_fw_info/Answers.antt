-- `reply::unpack_fw_info` meets its contract.
use Rattle.reply.specs.Reply.{blank_of, fw_info_reply_of}
use Rattle.reply.proofs.unpack_fw_info.Goals as goal

pub returns : goal.returns
unfolding blank_of fw_info_reply_of
returns c = simp (c.blank.ensures, c.unpack_fw_info.ensures)
