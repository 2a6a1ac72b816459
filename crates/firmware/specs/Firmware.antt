-- FwVersion and FwInfo, document 01, "Reply fields", from the raw values of their layouts (layout/specs/Replies.antt).
use Rattle.std.specs.Prelude.{ℕ, Bool, false, not, List, eqb, get_or, replicate}
use Rattle.format.specs.Format.{name_room, hash_room}
use Rattle.codes.specs.Codes.{hw_type_of, qml_hw_of}
use Rattle.codes.specs.declared.HwType.TheVariants as HwType
use Rattle.codes.specs.declared.QmlHw.TheVariants as QmlHw
use Rattle.layout.specs.Layout.{RawsOf, raws}
use Rattle.layout.specs.Replies.{fw_version_layout, fw_info_layout}
use Rattle.firmware.specs.declared.FwVersion.{FwVersion}
use Rattle.firmware.specs.declared.FwInfo.{FwInfo}

-- "A true flag is a nonzero byte."
abbrev pub flag_of : ℕ → Bool
flag_of byte = not (eqb byte 0)

-- "major b, minor b, hw_name, 12 uuid bytes, pairing_done, test_version_number, hw_type, custom_config_num, has_phase_filters, qml_hw, qml_app, nrf_flags
-- (a byte each), fw_name, hw_crc u."
abbrev pub version_by : RawsOf fw_version_layout → FwVersion
version_by (front, (hw_name_bytes, (uuid, (flags, (fw_name_bytes, (crc, _)))))) =
    record {
      major = get_or front 0 0;
      minor = get_or front 1 0;
      hw_name = hw_name_bytes;
      uuid = uuid;
      pairing_done = flag_of (get_or flags 0 0);
      test_version_number = get_or flags 1 0;
      hw_type = hw_type_of (get_or flags 2 0);
      custom_config_num = get_or flags 3 0;
      has_phase_filters = flag_of (get_or flags 4 0);
      qml_hw = qml_hw_of (get_or flags 5 0);
      qml_app = get_or flags 6 0;
      nrf_flags = get_or flags 7 0;
      fw_name = fw_name_bytes;
      hw_crc = get_or crc 0 0;
    }

-- "major, minor, test_version_number, commit_hash, user_commit_hash."
abbrev pub info_by : RawsOf fw_info_layout → FwInfo
info_by (front, (commit, (user, _))) =
    record {
      major = get_or front 0 0;
      minor = get_or front 1 0;
      test_version_number = get_or front 2 0;
      commit_hash = commit;
      user_commit_hash = user;
    }

-- what a payload holds after its id
unfoldable pub fw_version_of : List ℕ → FwVersion
fw_version_of payload = version_by (raws fw_version_layout payload 1)

unfoldable pub fw_info_of : List ℕ → FwInfo
fw_info_of payload = info_by (raws fw_info_layout payload 1)

-- zeros, false and the kinds numbered 0
abbrev pub no_fw_version : FwVersion
no_fw_version =
    record {
      major = 0;
      minor = 0;
      hw_name = replicate name_room 0;
      uuid = replicate 12 0;
      pairing_done = false;
      test_version_number = 0;
      hw_type = HwType.Vesc;
      custom_config_num = 0;
      has_phase_filters = false;
      qml_hw = QmlHw.None;
      qml_app = 0;
      nrf_flags = 0;
      fw_name = replicate name_room 0;
      hw_crc = 0;
    }

abbrev pub no_fw_info : FwInfo
no_fw_info = record { major = 0; minor = 0; test_version_number = 0; commit_hash = replicate hash_room 0; user_commit_hash = replicate hash_room 0 }
