-- Document 02, W4, "a raw telemetry record (.. flag and kind bytes as carried)": RawFwVersion, from the raw values of the layout of FwVersion
-- (layout/specs/Replies.antt), and the FwVersion that it stands for. FwInfo has no flag and no kind: it is its own raw record.
use Rattle.std.specs.Prelude.{ℕ, List, [], ◌∷◌, get_or, replicate}
use Rattle.format.specs.Format.{name_room}
use Rattle.codes.specs.Codes.{hw_type_of, qml_hw_of}
use Rattle.layout.specs.Layout.{RawsOf, raws}
use Rattle.layout.specs.Replies.{fw_version_layout, fw_info_layout}
use Rattle.firmware.specs.Firmware.{flag_of}
use Rattle.firmware.specs.declared.FwVersion.{FwVersion}
use Rattle.firmware.specs.declared.RawFwVersion.{RawFwVersion}
use Rattle.firmware.specs.declared.FwInfo.{FwInfo}

-- "major b, minor b, hw_name, 12 uuid bytes, pairing_done, test_version_number, hw_type, custom_config_num, has_phase_filters, qml_hw, qml_app, nrf_flags
-- (a byte each), fw_name, hw_crc u."
abbrev pub raw_version_by : RawsOf fw_version_layout → RawFwVersion
raw_version_by (front, (hw_name_bytes, (uuid, (single, (fw_name_bytes, (crc, _)))))) =
    record {
      major = get_or front 0 0;
      minor = get_or front 1 0;
      hw_name = hw_name_bytes;
      uuid = uuid;
      pairing_done = get_or single 0 0;
      test_version_number = get_or single 1 0;
      hw_type = get_or single 2 0;
      custom_config_num = get_or single 3 0;
      has_phase_filters = get_or single 4 0;
      qml_hw = get_or single 5 0;
      qml_app = get_or single 6 0;
      nrf_flags = get_or single 7 0;
      fw_name = fw_name_bytes;
      hw_crc = get_or crc 0 0;
    }

-- the flags and kinds that the carried bytes stand for
abbrev pub version_from : RawFwVersion → FwVersion
version_from raw =
    record {
      major = raw.major;
      minor = raw.minor;
      hw_name = raw.hw_name;
      uuid = raw.uuid;
      pairing_done = flag_of raw.pairing_done;
      test_version_number = raw.test_version_number;
      hw_type = hw_type_of raw.hw_type;
      custom_config_num = raw.custom_config_num;
      has_phase_filters = flag_of raw.has_phase_filters;
      qml_hw = qml_hw_of raw.qml_hw;
      qml_app = raw.qml_app;
      nrf_flags = raw.nrf_flags;
      fw_name = raw.fw_name;
      hw_crc = raw.hw_crc;
    }

-- The other way: the raw values of a record, in the order of its layout; first the fields of "a byte each".

abbrev pub single_bytes : RawFwVersion → List ℕ
single_bytes raw =
    raw.pairing_done
    ∷ raw.test_version_number
    ∷ raw.hw_type
    ∷ raw.custom_config_num
    ∷ raw.has_phase_filters
    ∷ raw.qml_hw
    ∷ raw.qml_app
    ∷ raw.nrf_flags
    ∷ []

abbrev pub version_raws : RawFwVersion → RawsOf fw_version_layout
version_raws raw = (raw.major ∷ raw.minor ∷ [], (raw.hw_name, (raw.uuid, (single_bytes raw, (raw.fw_name, (raw.hw_crc ∷ [], tt))))))

abbrev pub info_raws : FwInfo → RawsOf fw_info_layout
info_raws info = (info.major ∷ info.minor ∷ info.test_version_number ∷ [], (info.commit_hash, (info.user_commit_hash, tt)))

-- what a payload holds after its id
unfoldable pub raw_version_of : List ℕ → RawFwVersion
raw_version_of payload = raw_version_by (raws fw_version_layout payload 1)

-- zeros
abbrev pub no_raw_fw_version : RawFwVersion
no_raw_fw_version =
    record {
      major = 0;
      minor = 0;
      hw_name = replicate name_room 0;
      uuid = replicate 12 0;
      pairing_done = 0;
      test_version_number = 0;
      hw_type = 0;
      custom_config_num = 0;
      has_phase_filters = 0;
      qml_hw = 0;
      qml_app = 0;
      nrf_flags = 0;
      fw_name = replicate name_room 0;
      hw_crc = 0;
    }
