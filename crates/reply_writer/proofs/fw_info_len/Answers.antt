-- `reply_writer::fw_info_len` meets its contract.
use borrow.Author.Rules.{rules}
use native.Mathlib.Omega.{arith}
use Rattle.raw_reply.specs.Laws.{InfoFits}
use Rattle.reply_writer.proofs.Firmware.{info-size}
use Rattle.reply_writer.proofs.fw_info_len.Goals as goal

pub returns : goal.returns
returns c =
    let v = c.args.info in
    let fits : InfoFits v = search rules in
    let first = rw fits.commit at c.name_len.ensures in
    let second = rw fits.user at c.name_len-2.ensures in
    (omega (arith, info-size v fits.front), omega arith)
