-- `raw_reply::unpack_fw_version` meets its contract.
use Rattle.firmware.specs.RawVersion.{raw_version_of}
use Rattle.raw_reply.specs.RawReply.{blank_raw, raw_as}
use Rattle.raw_reply.proofs.unpack_fw_version.Goals as goal

pub returns : goal.returns
unfolding blank_raw raw_as raw_version_of
returns c = simp (c.blank.ensures, c.unpack_raw_fw_version.ensures)
