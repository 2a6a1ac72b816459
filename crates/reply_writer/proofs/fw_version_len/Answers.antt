-- `reply_writer::fw_version_len` meets its contract.
use native.Mathlib.Omega.{arith}
use borrow.Author.Rules.{rules}
use mathlib.Core.Path.{◌≡◌}
use lib.ListN.{length}
use Rattle.format.specs.Format.{name_room}
use Rattle.reply_writer.proofs.Runs.{bytes-below}
use Rattle.reply_writer.proofs.Firmware.{version-size}
use Rattle.reply_writer.proofs.fw_version_len.Goals as goal

pub returns : goal.returns
returns c =
    let v = c.args.version in
    let one : length v.hw_name ≡ name_room = search rules in
    let two : length v.fw_name ≡ name_room = search rules in
    let first = rw one at c.name_len.ensures in
    let second = rw two at c.name_len-2.ensures in
    let size = version-size v (search rules) (bytes-below 12 v.uuid (search rules) (λ at. search rules)) (search rules) in
    (omega arith, omega arith)
