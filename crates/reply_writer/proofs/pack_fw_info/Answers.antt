-- `reply_writer::pack_fw_info` meets its contract: the front and the names, one after the other.
use borrow.Author.Rules.{rules}
use Rattle.raw_reply.specs.Laws.{InfoFits}
use Rattle.reply_writer.proofs.Runs.{not-refused, room-left, then-packs}
use Rattle.reply_writer.proofs.Firmware.{info-parts}
use Rattle.reply_writer.proofs.Payloads.{room-as, packed-as}
use Rattle.reply_writer.proofs.pack_fw_info.Goals as goal

pub returns-in_err-commit_at : goal.returns-in_err-commit_at
returns-in_err-commit_at c =
    let v = c.args.info in
    let fits : InfoFits v = search rules in
    not-refused _ c.in_err-commit_at.ensures (room-as 2 (info-parts v fits.front) c.requires)

pub returns-in_err-user_at : goal.returns-in_err-user_at
returns-in_err-user_at c =
    let v = c.args.info in
    let fits : InfoFits v = search rules in
    let name = rw fits.commit at c.in_err-user_at.ensures in
    not-refused _ name (room-left _ c.in_ok-commit_at.ensures (room-as 2 (info-parts v fits.front) c.requires))

pub returns : goal.returns
returns c =
    let v = c.args.info in
    let fits : InfoFits v = search rules in
    let room = room-as 2 (info-parts v fits.front) c.requires in
    let first = rw fits.commit at c.in_ok-user_at.ensures in
    let second = rw fits.user at c.pack_name-2.ensures in
    packed-as (info-parts v fits.front) (then-packs _ c.in_ok-commit_at.ensures room (then-packs _ first (room-left _ c.in_ok-commit_at.ensures room) second))
