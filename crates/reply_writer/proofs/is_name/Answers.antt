-- `reply_writer::is_name` meets its contract.
use mathlib.Core.Path.{◌∙◌}
use Rattle.reply_writer.specs.Writer.{is_name}
use Rattle.reply_writer.proofs.Names.{sent-given_is}
use Rattle.reply_writer.proofs.is_name.Goals as goal

pub returns : goal.returns
unfolding is_name
returns c = c.is_some.ensures ∙ sent-given_is _ _ c.sent_len.ensures
