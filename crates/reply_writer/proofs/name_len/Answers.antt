-- `reply_writer::name_len` meets its contract.
use mathlib.Core.Path.{◌∙◌}
use lib.ListN.{length}
use Rattle.reply_writer.proofs.Names.{sent-or, sent-inside}
use Rattle.reply_writer.proofs.name_len.Goals as goal

pub returns : goal.returns
returns c =
    let held = c.args.held.now in
    let is = c.unwrap_or.ensures ∙ sent-or _ _ c.sent_len.ensures in
    (is, rw is (sent-inside (length held) held))
