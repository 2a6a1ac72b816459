-- `raw_reply::read_reply` meets its contract.
use mathlib.Core.Path.{◌≡◌}
use borrow.Author.Rules.{rules}
use Rattle.std.specs.Prelude.{Err}
use Rattle.raw_reply.specs.Reading.{raw_in, raw_read_of}
use Rattle.raw_reply.proofs.read_reply.Goals as goal

pub returns-in_err-count : goal.returns-in_err-count
unfolding raw_read_of raw_in
returns-in_err-count c =
    let passed : c.from_residual.result ≡ Err c.in_err-count.field-0.0 = search rules in
    rw (passed, ← c.in_err-count.ensures)

pub returns : goal.returns
unfolding raw_read_of raw_in
returns c = simp (← c.in_ok-count.ensures, c.raw_from.ensures, c.payload.ensures)
