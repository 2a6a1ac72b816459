-- `reply_writer::good_names` meets its contract, by the kind.
use borrow.Author.Rules.{rules}
use mathlib.Core.Path.{◌≡◌}
use lib.ListN.{length}
use Rattle.format.specs.Format.{name_room, hash_room}
use Rattle.reply_writer.specs.Writer.{good_names}
use Rattle.reply_writer.proofs.good_names.Goals as goal

pub returns-then-is_name : goal.returns-then-is_name
unfolding good_names
returns-then-is_name c =
    let v = c.args.reply.fw_version in
    let one : length v.hw_name ≡ name_room = search rules in
    let two : length v.fw_name ≡ name_room = search rules in
    let first = rw one at c.is_name.ensures in
    let second = rw two at c.is_name-then-is_name.ensures in
    let holds = c.if-is_name.true in
    rw (c.in-FwVersion.is, ← first, holds) second

pub returns-else-is_name : goal.returns-else-is_name
unfolding good_names
returns-else-is_name c =
    let v = c.args.reply.fw_version in
    let one : length v.hw_name ≡ name_room = search rules in
    let first = rw one at c.is_name.ensures in
    let off = c.if-is_name.false in
    rw (c.in-FwVersion.is, ← first, off)

pub returns-then-is_name-2 : goal.returns-then-is_name-2
unfolding good_names
returns-then-is_name-2 c =
    let v = c.args.reply.fw_info in
    let one : length v.commit_hash ≡ hash_room = search rules in
    let two : length v.user_commit_hash ≡ hash_room = search rules in
    let first = rw one at c.is_name-in-FwInfo.ensures in
    let second = rw two at c.is_name-then-is_name-2.ensures in
    let holds = c.if-is_name-2.true in
    rw (c.in-FwInfo.is, ← first, holds) second

pub returns-else-is_name-2 : goal.returns-else-is_name-2
unfolding good_names
returns-else-is_name-2 c =
    let v = c.args.reply.fw_info in
    let one : length v.commit_hash ≡ hash_room = search rules in
    let first = rw one at c.is_name-in-FwInfo.ensures in
    let off = c.if-is_name-2.false in
    rw (c.in-FwInfo.is, ← first, off)

pub returns-in-GetValues : goal.returns-in-GetValues
unfolding good_names
returns-in-GetValues c = search rules
