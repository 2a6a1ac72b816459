-- `reply_writer::pack_masked` meets its contract: the id, the mask and the fields, one after the other.
use Rattle.packer.specs.Numbers.{digits}
use Rattle.reply_writer.proofs.Runs.{not-refused, room-left, then-packs}
use Rattle.reply_writer.proofs.pack_masked.Goals as goal

pub returns-in_err-mask_at : goal.returns-in_err-mask_at
unfolding digits
returns-in_err-mask_at c = not-refused _ c.in_err-mask_at.ensures c.requires

pub returns-in_err-fields_at : goal.returns-in_err-fields_at
unfolding digits
returns-in_err-fields_at c = not-refused _ c.in_err-fields_at.ensures (room-left _ c.in_ok-mask_at.ensures c.requires)

pub returns : goal.returns
unfolding digits
returns c =
    then-packs _ c.in_ok-mask_at.ensures c.requires
    (then-packs _ c.in_ok-fields_at.ensures (room-left _ c.in_ok-mask_at.ensures c.requires) c.pack_fields.ensures)
