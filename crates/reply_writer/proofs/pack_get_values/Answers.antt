-- `reply_writer::pack_get_values` meets its contract: the id and the fields, one after the other.
use Rattle.format.specs.Format.{all_values}
use Rattle.packer.specs.Numbers.{digits}
use Rattle.tables.specs.Tables.{values_table}
use Rattle.raw_telemetry.specs.Records.{values_rows}
use Rattle.reply_writer.proofs.Runs.{not-refused, then-packs}
use Rattle.reply_writer.proofs.Payloads.{unpadded, packed-as}
use Rattle.reply_writer.proofs.pack_get_values.Goals as goal

pub returns-in_err-fields_at : goal.returns-in_err-fields_at
unfolding digits
returns-in_err-fields_at c = not-refused _ c.in_err-fields_at.ensures c.requires

pub returns : goal.returns
unfolding digits
returns c =
    let same = unpadded all_values values_table (values_rows c.args.values) c.values_numbers.ensures in
    then-packs _ c.in_ok-fields_at.ensures c.requires (packed-as same c.pack_fields.ensures)
