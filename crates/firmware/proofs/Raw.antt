-- The raw records and the raw values of their layouts, both ways.
use mathlib.Core.Path.{◌≡◌, refl, sym, ap}
use mathlib.Core.List.{List, [], ◌∷◌}
use Prim.Native.Nat.{ℕ, zero, suc}
use lib.ListN.{length, get_or, replicate}
use Rattle.packer.specs.Numbers.{Below}
use Rattle.codes.specs.Codes.{hw_type_of, qml_hw_of}
use Rattle.layout.specs.Layout.{RawsOf, raws}
use Rattle.layout.specs.Replies.{fw_version_layout, fw_info_layout}
use Rattle.layout.specs.Writing.{Fits}
use Rattle.firmware.specs.Firmware.{info_by, fw_version_of, no_fw_version}
use Rattle.firmware.specs.RawVersion.{raw_version_by, raw_version_of, version_from, version_raws, info_raws, no_raw_fw_version}
use Rattle.firmware.specs.Raw.{RawFirmware}

-- a function's values at the first so many places
abbrev first : ℕ → (ℕ → ℕ) → List ℕ
first zero f = []
first (suc count) f = f 0 ∷ first count (λ (at : ℕ). f (suc at))

-- numbers that fit their widths, taken one by one by their places
one_by_one : (ws ns : List ℕ) → Below ws ns → first (length ws) (λ (at : ℕ). get_or ns at 0) ≡ ns
one_by_one [] [] fits = refl
one_by_one [] (n ∷ ns) fits = absurd fits
one_by_one (w ∷ ws) [] fits = absurd fits
one_by_one (w ∷ ws) (n ∷ ns) fits = ap (λ (l : List ℕ). n ∷ l) (one_by_one ws ns fits.1)

version-raws : (r : RawsOf fw_version_layout) → Fits fw_version_layout r → version_raws (raw_version_by r) ≡ r
version-raws (front, (hw_name_bytes, (uuid, (single, (fw_name_bytes, (crc, _)))))) (two, (_, (_, (eight, (_, (one, _)))))) =
    λ i. (one_by_one (replicate 2 1) front two i, (hw_name_bytes, (uuid, (one_by_one (replicate 8 1) single eight i, (fw_name_bytes, (one_by_one (4 ∷ []) crc one i, tt))))))

info-raws : (r : RawsOf fw_info_layout) → Fits fw_info_layout r → info_raws (info_by r) ≡ r
info-raws (front, (commit, (user, _))) (three, _) = λ i. (one_by_one (replicate 3 1) front three i, (commit, (user, tt)))

no-version : version_from no_raw_fw_version ≡ no_fw_version
unfolding hw_type_of qml_hw_of
no-version = refl

pub raw-firmware : RawFirmware
raw-firmware =
    record {
      version-back = λ v. refl;
      info-back = λ v. refl;
      version-raws = version-raws;
      info-raws = info-raws;
      version-by = λ r. refl;
      no-version = no-version;
    }

-- of a payload: the version that its raw record stands for
pub version-of : (payload : List ℕ) → version_from (raw_version_of payload) ≡ fw_version_of payload
unfolding raw_version_of fw_version_of
version-of payload = sym (raw-firmware.version-by (raws fw_version_layout payload 1))
