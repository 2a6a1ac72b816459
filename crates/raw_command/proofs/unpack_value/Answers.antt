-- `raw_command::unpack_value` meets its contract: the length, then the bytes' limit, then the value.
use mathlib.Core.Path.{ap, ◌∙◌}
use borrow.Author.Rules.{rules}
use Rattle.refusals.specs.Refusals.{ok}
use Rattle.raw_command.specs.Commands.{Plain}
use Rattle.raw_command.proofs.Behind.{limited}
use Rattle.raw_command.proofs.Order.{size-wrong, byte-wrong, value-right}
use Rattle.raw_command.proofs.unpack_value.Goals as goal

pub returns-then-bytes-carried : goal.returns-then-bytes-carried
returns-then-bytes-carried c = size-wrong _ _ _ c.carried_by-carried.ensures c.if-bytes-carried.true

pub returns-then-not-at_most : goal.returns-then-not-at_most
returns-then-not-at_most c = byte-wrong _ _ _ c.carried_by-carried.ensures c.if-bytes-carried.false (limited _ _ _ c.at_most.ensures) (search rules)

pub returns : goal.returns
returns c =
    ap (λ (plain : Plain). ok plain) c.command_of.ensures
    ∙ value-right _ _ _ c.carried_by-carried.ensures c.if-bytes-carried.false (limited _ _ _ c.at_most.ensures) (search rules)
