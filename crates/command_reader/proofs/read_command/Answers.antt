-- `command_reader::read_command` meets its contract: the frame, then its payload, which lies where the opened frame says.
use mathlib.Core.Path.{◌≡◌, sym}
use native.Mathlib.Omega.{arith}
use borrow.Author.Rules.{rules}
use Rattle.std.specs.Prelude.{Err}
use Rattle.command_reader.proofs.Reading.{opened-at, read_opened, read-refused}
use Rattle.command_reader.proofs.read_command.Goals as goal

pub returns-in_err-count : goal.returns-in_err-count
returns-in_err-count c =
    let passed : c.from_residual.result ≡ Err c.in_err-count.field-0.0 = search rules in
    rw passed (read-refused _ _ (sym c.in_err-count.ensures))

pub overflow_sub-count : goal.overflow_sub-count
overflow_sub-count c = omega (arith, (opened-at _ _ (sym c.in_ok-count.ensures)).counted)

pub slice_bounds-read_payload-count : goal.slice_bounds-read_payload-count
slice_bounds-read_payload-count c = omega (arith, (opened-at _ _ (sym c.in_ok-count.ensures)).counted)

pub slice_bounds-read_payload-start : goal.slice_bounds-read_payload-start
slice_bounds-read_payload-start c = omega (arith, (opened-at _ _ (sym c.in_ok-count.ensures)).counted)

pub slice_bounds-read_payload-end : goal.slice_bounds-read_payload-end
slice_bounds-read_payload-end c =
    let at = opened-at _ _ (sym c.in_ok-count.ensures) in
    omega (arith, at.counted, at.within)

pub returns : goal.returns
returns c = read_opened _ _ (sym c.in_ok-count.ensures) c.read_payload.ensures
