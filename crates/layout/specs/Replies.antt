-- The seven replies, document 01, "Reply fields": for each its id, and the list of items that follows it.
use Rattle.std.specs.Prelude.{◌≡◌, ℕ, cond, List, [], ◌∷◌, eqb}
use Rattle.refusals.specs.Refusals.{Answer, ok, refused, unknown_packet}
use Rattle.refusals.specs.Answers.{and_then}
use Rattle.format.specs.Format.{id_of, name_room, hash_room, all_values}
use Rattle.format.specs.declared.CommandId.TheVariants as CommandId
use Rattle.tables.specs.Tables.{values_table, setup_table, stats_table}
use Rattle.layout.specs.Layout.{Layout, name, masked, number, bytes, fields_under, Reader, extent}

-- "FwVersion, 0: major b, minor b, hw_name, 12 uuid bytes, pairing_done, test_version_number, hw_type, custom_config_num, has_phase_filters, qml_hw, qml_app,
-- nrf_flags (a byte each), fw_name, hw_crc u."; first what follows hw_name
abbrev pub fw_version_rest : Layout
fw_version_rest = bytes 12 ∷ bytes 8 ∷ name name_room ∷ number 4 ∷ []

abbrev pub fw_version_layout : Layout
fw_version_layout = bytes 2 ∷ name name_room ∷ fw_version_rest

-- "FwInfo, 157: major, minor, test_version_number, commit_hash, user_commit_hash."
abbrev pub fw_info_layout : Layout
fw_info_layout = bytes 3 ∷ name hash_room ∷ name hash_room ∷ []

-- "GetValues, 4": the fields of GetValuesSelective, each of them
abbrev pub get_values : Layout
get_values = fields_under all_values values_table ∷ []

-- "GetValuesSelective, 50", "GetValuesSetupSelective, 51", "GetStats, 128": "mask u, then those fields in that order whose bit is set"
abbrev pub selective : Layout
selective = masked values_table ∷ []

abbrev pub setup_selective : Layout
setup_selective = masked setup_table ∷ []

abbrev pub get_stats : Layout
get_stats = masked stats_table ∷ []

-- "ResetStats, 129: nothing."
abbrev pub reset_stats : Layout
reset_stats = []

pub record Reply : Type 0 where
  pub id : ℕ
  pub layout : Layout

abbrev pub reply : ℕ → Layout → Reply
reply id layout = record { id = id; layout = layout }

-- "the seven replies"
abbrev pub replies : List Reply
replies =
    reply (id_of CommandId.FwVersion) fw_version_layout
    ∷ reply (id_of CommandId.GetValues) get_values
    ∷ reply (id_of CommandId.GetValuesSelective) selective
    ∷ reply (id_of CommandId.GetValuesSetupSelective) setup_selective
    ∷ reply (id_of CommandId.GetStats) get_stats
    ∷ reply (id_of CommandId.ResetStats) reset_stats
    ∷ reply (id_of CommandId.FwInfo) fw_info_layout
    ∷ []

-- what follows an id, or "3 if not one of the seven replies, known command ids included"
unfoldable pub layout_in : List Reply → ℕ → Answer Layout
layout_in [] id = refused (unknown_packet id)
layout_in (r ∷ others) id = cond (eqb id r.id) (ok r.layout) (layout_in others id)

-- an id that none of them has
abbrev pub NoneOf : List Reply → ℕ → Type 0
NoneOf [] id = Unit {0}
NoneOf (r ∷ others) id = (id ≡ r.id → ⊥) × NoneOf others id

-- where the fields that follow an id end, from a place on
unfoldable pub fields_end : ℕ → Reader
fields_end id s at = and_then (layout_in replies id) (λ l. extent l s at)
