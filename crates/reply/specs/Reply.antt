-- A reply, document 01, "Reply fields" and "Port order and change of shape": "the kind, one telemetry record of each sort by value, the names beside;
-- unused records .. hold zeros, false, fault None and the kinds numbered 0".
use Rattle.std.specs.Prelude.{cond, ℕ, List, eqb, get_or}
use Rattle.format.specs.Format.{id_of, all_values}
use Rattle.format.specs.declared.CommandId.{CommandId}
use Rattle.layout.specs.Layout.{raws}
use Rattle.layout.specs.Replies.{get_values, selective, setup_selective, get_stats}
use Rattle.firmware.specs.Firmware.{fw_version_of, fw_info_of, no_fw_version, no_fw_info}
use Rattle.firmware.specs.declared.FwVersion.{FwVersion}
use Rattle.firmware.specs.declared.FwInfo.{FwInfo}
use Rattle.telemetry.specs.Telemetry.{values_of, setup_values_of, stats_of, no_values, no_setup_values, no_stats}
use Rattle.telemetry.specs.declared.Values.{Values}
use Rattle.telemetry.specs.declared.SetupValues.{SetupValues}
use Rattle.telemetry.specs.declared.Stats.{Stats}
use Rattle.reply.specs.declared.Kind.{Kind}
use Rattle.reply.specs.declared.CommandReply.{CommandReply}

-- a reply's number is its id
abbrev pub kind_number : Kind → ℕ
kind_number Kind.FwVersion = id_of CommandId.FwVersion
kind_number Kind.GetValues = id_of CommandId.GetValues
kind_number Kind.GetValuesSelective = id_of CommandId.GetValuesSelective
kind_number Kind.GetValuesSetupSelective = id_of CommandId.GetValuesSetupSelective
kind_number Kind.GetStats = id_of CommandId.GetStats
kind_number Kind.ResetStats = id_of CommandId.ResetStats
kind_number Kind.FwInfo = id_of CommandId.FwInfo

abbrev pub reply_with : Kind → Values → SetupValues → Stats → FwVersion → FwInfo → CommandReply
reply_with kind values setup stats version info =
    record { kind = kind; values = values; setup_values = setup; stats = stats; fw_version = version; fw_info = info }

-- a reply of a kind, with nothing in its records
unfoldable pub blank_of : Kind → CommandReply
blank_of kind = reply_with kind no_values no_setup_values no_stats no_fw_version no_fw_info

-- the reply where there is none: "the reply kind is then FwVersion"
unfoldable pub empty_reply : CommandReply
empty_reply = blank_of Kind.FwVersion

-- one record filled, the others with nothing in them
abbrev pub with_values : Kind → Values → CommandReply
with_values kind values = reply_with kind values no_setup_values no_stats no_fw_version no_fw_info

abbrev pub with_setup_values : SetupValues → CommandReply
with_setup_values setup = reply_with Kind.GetValuesSetupSelective no_values setup no_stats no_fw_version no_fw_info

abbrev pub with_stats : Stats → CommandReply
with_stats stats = reply_with Kind.GetStats no_values no_setup_values stats no_fw_version no_fw_info

abbrev pub with_fw_version : FwVersion → CommandReply
with_fw_version version = reply_with Kind.FwVersion no_values no_setup_values no_stats version no_fw_info

abbrev pub with_fw_info : FwInfo → CommandReply
with_fw_info info = reply_with Kind.FwInfo no_values no_setup_values no_stats no_fw_version info

-- What a payload carries after its id, from the raw values of the reply's layout (layout/specs/Replies.antt). A masked reply's are the mask, and then the
-- numbers of its fields. Document 02, W1: "Put the mask as received, unknown bits too, into the telemetry records; GetValues shows all 22 bits, and the
-- statistics record gets its mask too."

unfoldable pub get_values_of : List ℕ → CommandReply
get_values_of payload = with_values Kind.GetValues (values_of all_values (raws get_values payload 1).0)

unfoldable pub get_values_selective_of : List ℕ → CommandReply
get_values_selective_of payload = with_values Kind.GetValuesSelective (values_of (raws selective payload 1).0.0 (raws selective payload 1).0.1)

unfoldable pub get_values_setup_selective_of : List ℕ → CommandReply
get_values_setup_selective_of payload = with_setup_values (setup_values_of (raws setup_selective payload 1).0.0 (raws setup_selective payload 1).0.1)

unfoldable pub get_stats_of : List ℕ → CommandReply
get_stats_of payload = with_stats (stats_of (raws get_stats payload 1).0.0 (raws get_stats payload 1).0.1)

unfoldable pub fw_version_reply_of : List ℕ → CommandReply
fw_version_reply_of payload = with_fw_version (fw_version_of payload)

unfoldable pub fw_info_reply_of : List ℕ → CommandReply
fw_info_reply_of payload = with_fw_info (fw_info_of payload)

-- a test of a payload's id
abbrev pub if_id : CommandId → List ℕ → CommandReply → CommandReply → CommandReply
if_id id payload reply other = cond (eqb (get_or payload 0 0) (id_of id)) reply other

-- the reply that a good frame's payload carries, by its id; the empty one where the id is no reply's, which a good frame's never is
unfoldable pub reply_of : List ℕ → CommandReply
reply_of payload =
    if_id CommandId.FwVersion payload (fw_version_reply_of payload)
    (if_id CommandId.GetValues payload (get_values_of payload)
    (if_id CommandId.GetValuesSelective payload (get_values_selective_of payload)
    (if_id CommandId.GetValuesSetupSelective payload (get_values_setup_selective_of payload)
    (if_id CommandId.GetStats payload (get_stats_of payload)
    (if_id CommandId.ResetStats payload (blank_of Kind.ResetStats)
    (if_id CommandId.FwInfo payload (fw_info_reply_of payload) empty_reply))))))
