-- `reply_writer::pack_fw_version` meets its contract: the front, hw_name and the rest, one after the other.
use borrow.Author.Rules.{rules}
use mathlib.Core.Path.{◌≡◌}
use lib.ListN.{length}
use Rattle.format.specs.Format.{name_room}
use Rattle.reply_writer.proofs.Runs.{not-refused, room-left, then-packs}
use Rattle.reply_writer.proofs.Firmware.{version-parts}
use Rattle.reply_writer.proofs.Payloads.{room-as, packed-as}
use Rattle.reply_writer.proofs.pack_fw_version.Goals as goal

pub returns-in_err-hw_name_at : goal.returns-in_err-hw_name_at
returns-in_err-hw_name_at c =
    let v = c.args.version in
    let parts = version-parts v (search rules) in
    let room = room-as 2 parts c.requires in
    not-refused _ c.in_err-hw_name_at.ensures room

pub returns-in_err-uuid_at : goal.returns-in_err-uuid_at
returns-in_err-uuid_at c =
    let v = c.args.version in
    let parts = version-parts v (search rules) in
    let room = room-as 2 parts c.requires in
    let long : length v.hw_name ≡ name_room = search rules in
    let name = rw long at c.in_err-uuid_at.ensures in
    not-refused _ name (room-left _ c.in_ok-hw_name_at.ensures room)

pub pack_fw_version_after-requires : goal.pack_fw_version_after-requires
pack_fw_version_after-requires c =
    let v = c.args.version in
    let parts = version-parts v (search rules) in
    let room = room-as 2 parts c.requires in
    let long : length v.hw_name ≡ name_room = search rules in
    let name = rw long at c.in_ok-uuid_at.ensures in
    room-left _ name (room-left _ c.in_ok-hw_name_at.ensures room)

pub returns : goal.returns
returns c =
    let v = c.args.version in
    let parts = version-parts v (search rules) in
    let room = room-as 2 parts c.requires in
    let long : length v.hw_name ≡ name_room = search rules in
    let name = rw long at c.in_ok-uuid_at.ensures in
    packed-as parts (then-packs _ c.in_ok-hw_name_at.ensures room (then-packs _ name (room-left _ c.in_ok-hw_name_at.ensures room) c.pack_fw_version_after.ensures))
