-- `reply_writer::pack_fw_version_after` meets its contract: four writes, one after the other.
use borrow.Author.Rules.{rules}
use mathlib.Core.Path.{◌≡◌}
use lib.ListN.{length, replicate}
use Rattle.format.specs.Format.{name_room}
use Rattle.packer.specs.Numbers.{Below}
use Rattle.firmware.specs.RawVersion.{single_bytes}
use Rattle.reply_writer.proofs.Runs.{bytes-below, not-refused, room-left, then-packs}
use Rattle.reply_writer.proofs.Firmware.{rest-parts, single-below}
use Rattle.reply_writer.proofs.Payloads.{room-as, packed-as}
use Rattle.reply_writer.proofs.pack_fw_version_after.Goals as goal

pub returns-in_err-single_at : goal.returns-in_err-single_at
returns-in_err-single_at c =
    let v = c.args.version in
    let uuid = bytes-below 12 v.uuid (search rules) (λ at. search rules) in
    let single : Below (replicate 8 1) (single_bytes v) = search (rules, single-below, c.well_formed) in
    let parts = rest-parts v uuid single in
    let room = room-as c.args.pos parts c.requires in
    not-refused _ c.in_err-single_at.ensures room

pub returns-in_err-fw_name_at : goal.returns-in_err-fw_name_at
returns-in_err-fw_name_at c =
    let v = c.args.version in
    let uuid = bytes-below 12 v.uuid (search rules) (λ at. search rules) in
    let single : Below (replicate 8 1) (single_bytes v) = search (rules, single-below, c.well_formed) in
    let parts = rest-parts v uuid single in
    let room = room-as c.args.pos parts c.requires in
    not-refused _ c.in_err-fw_name_at.ensures (room-left _ c.in_ok-single_at.ensures room)

pub returns-in_err-crc_at : goal.returns-in_err-crc_at
returns-in_err-crc_at c =
    let v = c.args.version in
    let uuid = bytes-below 12 v.uuid (search rules) (λ at. search rules) in
    let single : Below (replicate 8 1) (single_bytes v) = search (rules, single-below, c.well_formed) in
    let parts = rest-parts v uuid single in
    let room = room-as c.args.pos parts c.requires in
    let room2 = room-left _ c.in_ok-single_at.ensures room in
    let long : length v.fw_name ≡ name_room = search rules in
    let name = rw long at c.in_err-crc_at.ensures in
    not-refused _ name (room-left _ c.in_ok-fw_name_at.ensures room2)

pub returns : goal.returns
returns c =
    let v = c.args.version in
    let uuid = bytes-below 12 v.uuid (search rules) (λ at. search rules) in
    let single : Below (replicate 8 1) (single_bytes v) = search (rules, single-below, c.well_formed) in
    let parts = rest-parts v uuid single in
    let room = room-as c.args.pos parts c.requires in
    let room2 = room-left _ c.in_ok-single_at.ensures room in
    let room3 = room-left _ c.in_ok-fw_name_at.ensures room2 in
    let long : length v.fw_name ≡ name_room = search rules in
    let name = rw long at c.in_ok-crc_at.ensures in
    packed-as parts (then-packs _ c.in_ok-single_at.ensures room (then-packs _ c.in_ok-fw_name_at.ensures room2 (then-packs _ name room3 c.pack_u32.ensures)))
