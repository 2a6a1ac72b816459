-- A raw reply, document 02, W4: what each of the seven replies carries. Each comes from the raw values of its layout (layout/specs/Replies.antt), and has them.
use Rattle.std.specs.Prelude.{cond, ℕ, List, [], ◌∷◌, eqb, get_or}
use Rattle.format.specs.Format.{all_values}
use Rattle.tables.specs.Tables.{values_table, setup_table, stats_table}
use Rattle.layout.specs.Layout.{Layout, RawsOf, raws}
use Rattle.layout.specs.Replies.{fw_version_layout, fw_info_layout, get_values, selective, setup_selective, get_stats, reset_stats}
use Rattle.telemetry.specs.Telemetry.{values_of, setup_values_of, stats_of}
use Rattle.firmware.specs.Firmware.{info_by, no_fw_info}
use Rattle.firmware.specs.RawVersion.{raw_version_by, version_raws, version_from, no_raw_fw_version, info_raws}
use Rattle.firmware.specs.declared.RawFwVersion.{RawFwVersion}
use Rattle.firmware.specs.declared.FwInfo.{FwInfo}
use Rattle.raw_telemetry.specs.Rows.{numbers_of, present}
use Rattle.raw_telemetry.specs.Records.{values_rows, values_by, raw_values_of, no_raw_values, setup_rows, setup_by, raw_setup_values_of, no_raw_setup_values, stats_rows, stats_by, raw_stats_of, no_raw_stats}
use Rattle.raw_telemetry.specs.declared.RawValues.{RawValues}
use Rattle.raw_telemetry.specs.declared.RawSetupValues.{RawSetupValues}
use Rattle.raw_telemetry.specs.declared.RawStats.{RawStats}
use Rattle.reply.specs.Reply.{kind_number, reply_with}
use Rattle.reply.specs.declared.Kind.{Kind}
use Rattle.reply.specs.declared.CommandReply.{CommandReply}
use Rattle.raw_reply.specs.declared.RawReply.{RawReply}

-- 1. Replies of a kind, with nothing in the records of other kinds.

abbrev pub raw_with : Kind → RawValues → RawSetupValues → RawStats → RawFwVersion → FwInfo → RawReply
raw_with kind values setup stats version info =
    record { kind = kind; values = values; setup_values = setup; stats = stats; fw_version = version; fw_info = info }

unfoldable pub blank_raw : Kind → RawReply
blank_raw kind = raw_with kind no_raw_values no_raw_setup_values no_raw_stats no_raw_fw_version no_fw_info

-- where there is none
abbrev pub empty_raw : RawReply
empty_raw = blank_raw Kind.FwVersion

abbrev pub with_raw_values : Kind → RawValues → RawReply
with_raw_values kind values = raw_with kind values no_raw_setup_values no_raw_stats no_raw_fw_version no_fw_info

abbrev pub with_raw_setup_values : RawSetupValues → RawReply
with_raw_setup_values setup = raw_with Kind.GetValuesSetupSelective no_raw_values setup no_raw_stats no_raw_fw_version no_fw_info

abbrev pub with_raw_stats : RawStats → RawReply
with_raw_stats stats = raw_with Kind.GetStats no_raw_values no_raw_setup_values stats no_raw_fw_version no_fw_info

abbrev pub with_raw_fw_version : RawFwVersion → RawReply
with_raw_fw_version version = raw_with Kind.FwVersion no_raw_values no_raw_setup_values no_raw_stats version no_fw_info

abbrev pub with_raw_fw_info : FwInfo → RawReply
with_raw_fw_info info = raw_with Kind.FwInfo no_raw_values no_raw_setup_values no_raw_stats no_raw_fw_version info

-- 2. What follows the id of each kind, and the raw reply of its raw values.

abbrev pub layout_for : Kind → Layout
layout_for Kind.FwVersion = fw_version_layout
layout_for Kind.GetValues = get_values
layout_for Kind.GetValuesSelective = selective
layout_for Kind.GetValuesSetupSelective = setup_selective
layout_for Kind.GetStats = get_stats
layout_for Kind.ResetStats = reset_stats
layout_for Kind.FwInfo = fw_info_layout

-- GetValues: "read, it has all 22 bits"
abbrev pub raw_reply_by : (kind : Kind) → RawsOf (layout_for kind) → RawReply
raw_reply_by Kind.FwVersion carried = with_raw_fw_version (raw_version_by carried)
raw_reply_by Kind.GetValues carried = with_raw_values Kind.GetValues (raw_values_of all_values carried.0)
raw_reply_by Kind.GetValuesSelective carried = with_raw_values Kind.GetValuesSelective (raw_values_of carried.0.0 carried.0.1)
raw_reply_by Kind.GetValuesSetupSelective carried = with_raw_setup_values (raw_setup_values_of carried.0.0 carried.0.1)
raw_reply_by Kind.GetStats carried = with_raw_stats (raw_stats_of carried.0.0 carried.0.1)
raw_reply_by Kind.ResetStats carried = blank_raw Kind.ResetStats
raw_reply_by Kind.FwInfo carried = with_raw_fw_info (info_by carried)

-- what a payload carries after its id, as a reply of a kind
unfoldable pub raw_as : Kind → List ℕ → RawReply
raw_as kind payload = raw_reply_by kind (raws (layout_for kind) payload 1)

-- by its id, which is one of the seven in a good frame
abbrev pub kinds : List Kind
kinds =
    Kind.FwVersion ∷ Kind.GetValues ∷ Kind.GetValuesSelective ∷ Kind.GetValuesSetupSelective ∷ Kind.GetStats ∷ Kind.ResetStats ∷ Kind.FwInfo ∷ []

abbrev pub raw_among : List Kind → List ℕ → RawReply
raw_among [] payload = empty_raw
raw_among (kind ∷ others) payload = cond (eqb (get_or payload 0 0) (kind_number kind)) (raw_as kind payload) (raw_among others payload)

unfoldable pub raw_reply_of : List ℕ → RawReply
raw_reply_of payload = raw_among kinds payload

-- 3. The other way: the raw values of a reply, as it is sent.

-- The reply in the reader's form: "absent ones, and the records of other kinds, must be zero to be read back equal, which the reader always delivers";
-- GetValues "has all 22 bits"
abbrev pub cleared_as : Kind → RawReply → RawReply
cleared_as Kind.FwVersion r = with_raw_fw_version r.fw_version
cleared_as Kind.GetValues r = with_raw_values Kind.GetValues (values_by all_values (present all_values values_table (values_rows r.values)))
cleared_as Kind.GetValuesSelective r =
    with_raw_values Kind.GetValuesSelective (values_by r.values.mask (present r.values.mask values_table (values_rows r.values)))
cleared_as Kind.GetValuesSetupSelective r =
    with_raw_setup_values (setup_by r.setup_values.mask (present r.setup_values.mask setup_table (setup_rows r.setup_values)))
cleared_as Kind.GetStats r = with_raw_stats (stats_by r.stats.mask (present r.stats.mask stats_table (stats_rows r.stats)))
cleared_as Kind.ResetStats r = blank_raw Kind.ResetStats
cleared_as Kind.FwInfo r = with_raw_fw_info r.fw_info

unfoldable pub cleared : RawReply → RawReply
cleared r = cleared_as r.kind r

-- the raw values of the record of a kind
abbrev pub raws_in : (kind : Kind) → RawReply → RawsOf (layout_for kind)
raws_in Kind.FwVersion r = version_raws r.fw_version
raws_in Kind.GetValues r = (numbers_of values_table (values_rows r.values), tt)
raws_in Kind.GetValuesSelective r = ((r.values.mask, numbers_of values_table (values_rows r.values)), tt)
raws_in Kind.GetValuesSetupSelective r = ((r.setup_values.mask, numbers_of setup_table (setup_rows r.setup_values)), tt)
raws_in Kind.GetStats r = ((r.stats.mask, numbers_of stats_table (stats_rows r.stats)), tt)
raws_in Kind.ResetStats r = tt
raws_in Kind.FwInfo r = info_raws r.fw_info

-- 4. The reply with the scaled values of document 01, each record by its own numbers.

unfoldable pub reply_from : RawReply → CommandReply
reply_from r =
    reply_with r.kind (values_of r.values.mask (numbers_of values_table (values_rows r.values)))
    (setup_values_of r.setup_values.mask (numbers_of setup_table (setup_rows r.setup_values)))
    (stats_of r.stats.mask (numbers_of stats_table (stats_rows r.stats))) (version_from r.fw_version) r.fw_info
