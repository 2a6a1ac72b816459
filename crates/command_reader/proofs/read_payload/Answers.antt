-- `command_reader::read_payload` meets its contract: the hops, then what follows them.
use mathlib.Core.Path.{◌≡◌}
use borrow.Author.Rules.{rules}
use Rattle.std.specs.Prelude.{Err}
use Rattle.command_reader.proofs.Reading.{content-read, content-refused}
use Rattle.command_reader.proofs.read_payload.Goals as goal

pub returns-in_err-command : goal.returns-in_err-command
returns-in_err-command c =
    let passed : c.from_residual.result ≡ Err c.in_err-command.field-0.0 = search rules in
    rw passed (content-refused _ _ _ c.hops_len-hops.ensures.0 _ c.in_err-command.ensures)

pub returns : goal.returns
returns c = content-read _ _ _ c.hops_len-hops.ensures.0 _ c.in_ok-command.ensures
