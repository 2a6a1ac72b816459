-- `reply::unpack_fw_version` meets its contract.
use Rattle.reply.specs.Reply.{blank_of, fw_version_reply_of}
use Rattle.reply.proofs.unpack_fw_version.Goals as goal

pub returns : goal.returns
unfolding blank_of fw_version_reply_of
returns c = simp (c.blank.ensures, c.unpack_fw_version.ensures)
