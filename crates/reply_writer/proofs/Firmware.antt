-- The payloads of the firmware replies: how long they are, and that their parts written one after the other are them.
use mathlib.Core.Path.{◌≡◌, ap, ◌∙◌}
use mathlib.Core.List.{List, [], ◌∷◌, ◌++◌, append-nil}
use Prim.Native.Nat.{ℕ, ◌+◌, ◌<◌}
use native.Mathlib.Omega.{arith}
use lib.ListN.{length, replicate, length-append}
use Rattle.refusals.specs.Answers.{place_or}
use Rattle.names.specs.Names.{sent_of}
use Rattle.format.specs.Format.{name_room, hash_room}
use Rattle.packer.specs.Numbers.{big_endian, digits, Below}
use Rattle.packer.proofs.Digits.{below_length}
use Rattle.packer.proofs.Writes.{digits-length}
use Rattle.layout.specs.Replies.{fw_version_layout, fw_version_rest, fw_info_layout}
use Rattle.layout.specs.Writing.{written, written_of}
use Rattle.firmware.specs.RawVersion.{version_raws, info_raws, single_bytes}
use Rattle.firmware.specs.declared.RawFwVersion.{RawFwVersion}
use Rattle.firmware.specs.declared.FwInfo.{FwInfo}
use Rattle.reply.specs.Reply.{kind_number}
use Rattle.reply.specs.declared.Kind.TheVariants as Kind
use Rattle.reply_writer.proofs.Names.{sent_bytes, sent-length}
use Rattle.reply_writer.proofs.Runs.{digits-are}

-- what is sent of a name
abbrev pub sent_len : ℕ → List ℕ → ℕ
sent_len room held = place_or 0 (sent_of room held)

-- a lone number
number-is : (width n : ℕ) → digits (width ∷ []) (n ∷ []) ++ [] ≡ big_endian width n
unfolding digits
number-is width n = append-nil (digits (width ∷ []) (n ∷ [])) ∙ append-nil (big_endian width n)

module _ (v : RawFwVersion) where
  pub single-below
      : v.pairing_done < 256 → v.test_version_number < 256 → v.hw_type < 256 → v.custom_config_num < 256 → v.has_phase_filters < 256 → v.qml_hw < 256
      → v.qml_app < 256 → v.nrf_flags < 256 → Below (replicate 8 1) (single_bytes v)
  single-below a b c d e f g h = (a, (b, (c, (d, (e, (f, (g, (h, tt))))))))

  module _ (uuid : Below (replicate 12 1) v.uuid) (single : Below (replicate 8 1) (single_bytes v)) where
    pub rest-parts : written fw_version_rest (version_raws v).1.1 ≡ v.uuid ++ (single_bytes v ++ (sent_bytes name_room v.fw_name ++ big_endian 4 v.hw_crc))
    unfolding written written_of
    rest-parts = rw (digits-are 12 v.uuid uuid, digits-are 8 (single_bytes v) single, number-is 4 v.hw_crc)

    rest-size : length (written fw_version_rest (version_raws v).1.1) ≡ 24 + sent_len name_room v.fw_name
    rest-size =
        ap length rest-parts
        ∙ simp length-append
        (omega (arith, below_length (replicate 12 1) v.uuid uuid, sent-length name_room v.fw_name, digits-length 4 v.hw_crc))

  module _ (front : Below (replicate 2 1) (v.major ∷ v.minor ∷ [])) where
    pub version-parts
        : kind_number Kind.FwVersion ∷ written fw_version_layout (version_raws v)
        ≡ (kind_number Kind.FwVersion ∷ v.major ∷ v.minor ∷ []) ++ (sent_bytes name_room v.hw_name ++ written fw_version_rest (version_raws v).1.1)
    unfolding written written_of
    version-parts = rw (digits-are 2 (v.major ∷ v.minor ∷ []) front)

    pub version-size
        : Below (replicate 12 1) v.uuid → Below (replicate 8 1) (single_bytes v)
        → length (kind_number Kind.FwVersion ∷ written fw_version_layout (version_raws v)) ≡ 27 + sent_len name_room v.hw_name + sent_len name_room v.fw_name
    version-size uuid single =
        ap length version-parts ∙ simp length-append (omega (arith, sent-length name_room v.hw_name, rest-size uuid single))

module _ (v : FwInfo) (front : Below (replicate 3 1) (v.major ∷ v.minor ∷ v.test_version_number ∷ [])) where
  pub info-parts
      : kind_number Kind.FwInfo ∷ written fw_info_layout (info_raws v)
      ≡ (kind_number Kind.FwInfo ∷ v.major ∷ v.minor ∷ v.test_version_number ∷ []) ++ (sent_bytes hash_room v.commit_hash ++ sent_bytes hash_room v.user_commit_hash)
  unfolding written written_of
  info-parts = rw (digits-are 3 (v.major ∷ v.minor ∷ v.test_version_number ∷ []) front, append-nil)

  pub info-size : length (kind_number Kind.FwInfo ∷ written fw_info_layout (info_raws v)) ≡ 4 + sent_len hash_room v.commit_hash + sent_len hash_room v.user_commit_hash
  info-size = ap length info-parts ∙ simp length-append (omega (arith, sent-length hash_room v.commit_hash, sent-length hash_room v.user_commit_hash))
