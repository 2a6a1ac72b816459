-- A record and the raw values of its layout say the same, both ways: what document 02, W4, "write and read undo each other", needs of FwVersion and FwInfo.
use Rattle.std.specs.Prelude.{◌≡◌}
use Rattle.layout.specs.Layout.{RawsOf}
use Rattle.layout.specs.Replies.{fw_version_layout, fw_info_layout}
use Rattle.layout.specs.Writing.{Fits}
use Rattle.firmware.specs.Firmware.{version_by, info_by, no_fw_version}
use Rattle.firmware.specs.RawVersion.{raw_version_by, version_raws, version_from, info_raws, no_raw_fw_version}
use Rattle.firmware.specs.declared.RawFwVersion.{RawFwVersion}
use Rattle.firmware.specs.declared.FwInfo.{FwInfo}

pub record RawFirmware : Type 0 where
  -- a record from its own raw values
  pub version-back : (v : RawFwVersion) → raw_version_by (version_raws v) ≡ v
  pub info-back : (v : FwInfo) → info_by (info_raws v) ≡ v
  -- and raw values from the record made of them, if they fit the layout: then there are as many as it has
  pub version-raws : (r : RawsOf fw_version_layout) → Fits fw_version_layout r → version_raws (raw_version_by r) ≡ r
  pub info-raws : (r : RawsOf fw_info_layout) → Fits fw_info_layout r → info_raws (info_by r) ≡ r
  -- what FwVersion is by its layout it is by its raw record
  pub version-by : (r : RawsOf fw_version_layout) → version_by r ≡ version_from (raw_version_by r)
  -- zeros stand for false and the kinds numbered 0
  pub no-version : version_from no_raw_fw_version ≡ no_fw_version
