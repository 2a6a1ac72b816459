-- `firmware::unpack_fw_info` meets its contract.
use mathlib.Core.Path.{sym, ap, ◌∙◌}
use native.Mathlib.Omega.{arith}
use Rattle.packer.specs.Numbers.{total}
use Rattle.packer.proofs.Bytes.{byte_of}
use Rattle.layout.specs.Layout.{name, raw_of, after_of, raws}
use Rattle.firmware.specs.Firmware.{fw_info_of}
use Rattle.firmware.proofs.unpack_fw_info.Goals as goal

pub returns : goal.returns
unfolding fw_info_of raws raw_of after_of total
returns c =
    let payload = c.args.payload.now in
    let first = c.name_or_zeros-end.ensures in
    let second = c.name_or_zeros.ensures in
    λ i. record {
      major = (c.byte_at.ensures ∙ sym (byte_of 3 payload 1 0 (omega arith))) i;
      minor = (c.byte_at-2.ensures ∙ sym (byte_of 3 payload 1 1 (omega arith))) i;
      test_version_number = (c.byte_at-3.ensures ∙ sym (byte_of 3 payload 1 2 (omega arith))) i;
      commit_hash = first.bytes i;
      user_commit_hash = (second.bytes ∙ ap (raw_of (name 47) payload) first.next) i;
    }
