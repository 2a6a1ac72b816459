-- The error bound of document 01, "Numbers", of the records that `decode` gives.
use Rattle.std.specs.Prelude.{◌≡◌, ℕ, List, get_or}
use Rattle.format.specs.Format.{payload_at}
use Rattle.tables.specs.Sorts.{table_of}
use Rattle.tables.specs.declared.Sort.{Sort}
use Rattle.telemetry.specs.Nearness.{FieldsNear}
use Rattle.reply.specs.Reply.{kind_number}
use Rattle.reply.specs.Records.{record_in, masks_of, fields_at}
use Rattle.reply.specs.declared.CommandReply.{CommandReply}

-- A frame's payload begins at byte 2 of the slice, with the id, which says the reply's kind; the kind says the masks, and where the fields begin.
pub record RecordsNear (s : List ℕ) (reply : CommandReply) : Type 0 where
  pub kind : kind_number reply.kind ≡ get_or s payload_at 0
  pub near : (sort : Sort) → FieldsNear (table_of sort) (masks_of reply.kind s sort) s (fields_at reply.kind) (record_in sort reply)
