-- `raw_reply::unpack_fw_info` meets its contract.
use Rattle.firmware.specs.Firmware.{fw_info_of}
use Rattle.raw_reply.specs.RawReply.{blank_raw, raw_as}
use Rattle.raw_reply.proofs.unpack_fw_info.Goals as goal

pub returns : goal.returns
unfolding blank_raw raw_as fw_info_of
returns c = simp (c.blank.ensures, c.unpack_fw_info.ensures)
