-- What the raw reader and the raw replies come to, beside `decode`.
use Rattle.std.specs.Prelude.{◌≡◌, List, [], ◌∷◌, ℕ, ◌^◌, ◌<◌, length, replicate}
use Rattle.refusals.specs.OneAnswer.{ToldApart}
use Rattle.format.specs.Format.{name_room, hash_room}
use Rattle.packer.specs.Numbers.{Below}
use Rattle.packer.specs.Nearness.{Bytes}
use Rattle.tables.specs.Tables.{values_table, setup_table, stats_table}
use Rattle.firmware.specs.RawVersion.{single_bytes}
use Rattle.firmware.specs.declared.RawFwVersion.{RawFwVersion}
use Rattle.firmware.specs.declared.FwInfo.{FwInfo}
use Rattle.reply.specs.Decode.{decode_of}
use Rattle.reply.specs.declared.Kind.{Kind}
use Rattle.raw_telemetry.specs.Rows.{RowsFit}
use Rattle.raw_telemetry.specs.Records.{values_rows, setup_rows, stats_rows}
use Rattle.raw_reply.specs.RawReply.{cleared, reply_from}
use Rattle.raw_reply.specs.Reading.{raw_read, raw_read_of}
use Rattle.raw_reply.specs.declared.RawReply.{RawReply}

-- 1. The numbers of a record fit their types, as those of every record of the code do: a record of the logic may hold any numbers.

pub record VersionFits (v : RawFwVersion) : Type 0 where
  pub front : Below (1 ∷ 1 ∷ []) (v.major ∷ v.minor ∷ [])
  pub hw-name : length v.hw_name ≡ name_room
  pub uuid : Below (replicate 12 1) v.uuid
  pub single : Below (replicate 8 1) (single_bytes v)
  pub fw-name : length v.fw_name ≡ name_room
  pub crc : v.hw_crc < 2 ^ 32

pub record InfoFits (v : FwInfo) : Type 0 where
  pub front : Below (1 ∷ 1 ∷ 1 ∷ []) (v.major ∷ v.minor ∷ v.test_version_number ∷ [])
  pub commit : length v.commit_hash ≡ hash_room
  pub user : length v.user_commit_hash ≡ hash_room

-- the record of a kind
abbrev pub FitsAs : Kind → RawReply → Type 0
FitsAs Kind.FwVersion r = VersionFits r.fw_version
FitsAs Kind.GetValues r = RowsFit values_table (values_rows r.values)
FitsAs Kind.GetValuesSelective r = (r.values.mask < 2 ^ 32) × RowsFit values_table (values_rows r.values)
FitsAs Kind.GetValuesSetupSelective r = (r.setup_values.mask < 2 ^ 32) × RowsFit setup_table (setup_rows r.setup_values)
FitsAs Kind.GetStats r = (r.stats.mask < 2 ^ 32) × RowsFit stats_table (stats_rows r.stats)
FitsAs Kind.ResetStats r = Unit {0}
FitsAs Kind.FwInfo r = InfoFits r.fw_info

abbrev pub RecordFits : RawReply → Type 0
RecordFits r = FitsAs r.kind r

-- 2. The reader's form: clearing the absent fields and the records of other kinds changes nothing, nor does giving GetValues all 22 bits.

abbrev pub InForm : RawReply → Type 0
InForm r = cleared r ≡ r

pub record RawLaws : Type 0 where
  -- "a reader into it that refuses exactly as `decode` does", and gives the same counts
  pub refuses-alike : (s : List ℕ) → (raw_read_of s).answer ≡ (decode_of s).answer
  -- the reply made from what was read is the one that `decode` gives
  pub remade : (s : List ℕ) → Bytes s → reply_from (raw_read_of s).reply ≡ (decode_of s).reply
  -- "which the reader always delivers"
  pub in-form : (s : List ℕ) → Bytes s → InForm (raw_read_of s).reply
  pub fits : (s : List ℕ) → Bytes s → RecordFits (raw_read_of s).reply

pub record OneAnswer : Type 0 where
  pub read-reply : ToldApart raw_read
