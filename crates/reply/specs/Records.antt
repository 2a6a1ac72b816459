-- The telemetry records of a reply, each by its table: which mask it has, and where its fields stand in the frame. Document 02, W1: "Put the mask as
-- received, unknown bits too, into the telemetry records; GetValues shows all 22 bits, and the statistics record gets its mask too."
use Rattle.std.specs.Prelude.{ℕ, ◌+◌, cond, List, eqb}
use Rattle.format.specs.Format.{id_of, payload_at, all_values}
use Rattle.format.specs.declared.CommandId.TheVariants as CommandId
use Rattle.packer.specs.Numbers.{be_at}
use Rattle.tables.specs.declared.Sort.{Sort}
use Rattle.telemetry.specs.Records.{ByTable, values_by_table, setup_by_table, stats_by_table, RecordHolds}
use Rattle.reply.specs.Reply.{kind_number}
use Rattle.reply.specs.declared.Kind.{Kind}
use Rattle.reply.specs.declared.CommandReply.{CommandReply}

-- the record of each sort
abbrev pub record_in : Sort → CommandReply → ByTable
record_in Sort.Values reply = values_by_table reply.values
record_in Sort.SetupValues reply = setup_by_table reply.setup_values
record_in Sort.Stats reply = stats_by_table reply.stats

-- the mask as received, in a frame that s starts with: the four bytes behind the id
abbrev pub received : List ℕ → ℕ
received s = be_at s (payload_at + 1) 4

-- a mask for each sort
abbrev pub masks : ℕ → ℕ → ℕ → Sort → ℕ
masks values setup stats Sort.Values = values
masks values setup stats Sort.SetupValues = setup
masks values setup stats Sort.Stats = stats

-- the masks of the three records in a reply of a kind; a record that the kind does not carry has none of the bits
abbrev pub masks_of : Kind → List ℕ → Sort → ℕ
masks_of Kind.FwVersion s = masks 0 0 0
masks_of Kind.GetValues s = masks all_values 0 0
masks_of Kind.GetValuesSelective s = masks (received s) 0 0
masks_of Kind.GetValuesSetupSelective s = masks 0 (received s) 0
masks_of Kind.GetStats s = masks 0 0 (received s)
masks_of Kind.ResetStats s = masks 0 0 0
masks_of Kind.FwInfo s = masks 0 0 0

-- where the fields begin: behind the id in GetValues, which has no mask, and behind the mask in the others
abbrev pub fields_at : Kind → ℕ
fields_at kind = cond (eqb (kind_number kind) (id_of CommandId.GetValues)) (payload_at + 1) (payload_at + 5)

-- What the three records of a reply hold, of the slice s that it was read from.
abbrev pub RecordsOf : List ℕ → CommandReply → Type 0
RecordsOf s reply = (sort : Sort) → RecordHolds sort (masks_of reply.kind s sort) s (fields_at reply.kind) (record_in sort reply)
