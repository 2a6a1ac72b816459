-- `reply_writer::pack_name` meets its contract.
use Rattle.reply_writer.proofs.pack_name.Goals as goal

pub returns : goal.returns
returns c = rw c.name_len.ensures.0 at c.pack_bytes.ensures
