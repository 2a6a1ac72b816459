-- `raw_command::unpack_command` meets its contract: a law for each way out.
use mathlib.Core.Path.{◌≡◌, ◌∙◌}
use native.Mathlib.Omega.{arith}
use borrow.Author.Rules.{rules}
use Rattle.std.specs.Prelude.{Err}
use Rattle.raw_command.proofs.Order.{empty, a-hop, unknown, known, plainly}
use Rattle.raw_command.proofs.unpack_command.Goals as goal

pub returns-in_default : goal.returns-in_default
returns-in_default c = empty _ (omega arith)

pub returns-then-first-eq-FORWARD_CAN : goal.returns-then-first-eq-FORWARD_CAN
returns-then-first-eq-FORWARD_CAN c = a-hop _ c.in-len1-up.len_at_least c.if-first-eq-FORWARD_CAN.true

pub returns-in_err-id : goal.returns-in_err-id
returns-in_err-id c =
    let passed : c.from_residual.result ≡ Err c.in_err-id.field-0.0 = search rules in
    rw passed (unknown _ c.in-len1-up.len_at_least c.if-first-eq-FORWARD_CAN.false c.in_err-id.ensures)

pub unpack_value-requires : goal.unpack_value-requires
unpack_value-requires c = plainly c.args.bytes.now c.in-len1-up.len_at_least c.if-first-eq-FORWARD_CAN.false _ c.in_ok-id.ensures

pub returns : goal.returns
returns c =
    c.unpack_value.ensures
    ∙ known _ c.in-len1-up.len_at_least c.if-first-eq-FORWARD_CAN.false _ c.in_ok-id.ensures
