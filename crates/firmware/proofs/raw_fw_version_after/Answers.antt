-- `firmware::raw_fw_version_after` meets its contract.
use mathlib.Core.Path.{sym, ap, ◌∙◌}
use Prim.Native.Nat.{ℕ}
use native.Mathlib.Omega.{arith}
use Rattle.packer.specs.Numbers.{be_at, total}
use Rattle.packer.proofs.Bytes.{byte_of, number_of}
use Rattle.layout.specs.Layout.{raw_of, after_of, raws}
use Rattle.firmware.proofs.raw_fw_version_after.Goals as goal

pub returns : goal.returns
unfolding raws raw_of after_of total
returns c =
    let args = c.args in
    let part = args.rest.now in
    let name = c.name_or_zeros-end.ensures in
    λ i. record {
      major = args.major;
      minor = args.minor;
      hw_name = args.hw_name;
      uuid = c.uuid_of.ensures i;
      pairing_done = (c.byte_at.ensures ∙ sym (byte_of 8 part 12 0 (omega arith))) i;
      test_version_number = (c.byte_at-2.ensures ∙ sym (byte_of 8 part 12 1 (omega arith))) i;
      hw_type = (c.byte_at-3.ensures ∙ sym (byte_of 8 part 12 2 (omega arith))) i;
      custom_config_num = (c.byte_at-4.ensures ∙ sym (byte_of 8 part 12 3 (omega arith))) i;
      has_phase_filters = (c.byte_at-5.ensures ∙ sym (byte_of 8 part 12 4 (omega arith))) i;
      qml_hw = (c.byte_at-6.ensures ∙ sym (byte_of 8 part 12 5 (omega arith))) i;
      qml_app = (c.byte_at-7.ensures ∙ sym (byte_of 8 part 12 6 (omega arith))) i;
      nrf_flags = (c.byte_at-8.ensures ∙ sym (byte_of 8 part 12 7 (omega arith))) i;
      fw_name = name.bytes i;
      hw_crc = (c.word_at.ensures ∙ ap (λ (at : ℕ). be_at part at 4) name.next ∙ sym (number_of 4 part _)) i;
    }
