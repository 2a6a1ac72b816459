-- `reply::decode` meets its contract.
use mathlib.Core.Path.{◌≡◌}
use borrow.Author.Rules.{rules}
use Rattle.std.specs.Prelude.{Err}
use Rattle.reply.specs.Decode.{decode_of, reply_by}
use Rattle.reply.proofs.decode.Goals as goal

pub returns-in_err-count : goal.returns-in_err-count
unfolding decode_of reply_by
returns-in_err-count c =
    let passed : c.from_residual.result ≡ Err c.in_err-count.field-0.0 = search rules in
    rw (passed, ← c.in_err-count.ensures)

pub returns : goal.returns
unfolding decode_of reply_by
returns c = rw (← c.in_ok-count.ensures, c.reply_in.ensures)
