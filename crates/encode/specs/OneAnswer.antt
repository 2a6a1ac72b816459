-- `encode` has one answer, and leaves one buffer.
use Rattle.std.specs.Prelude.{List, ℕ}
use Rattle.refusals.specs.OneAnswer.{OnlyBoth}
use Rattle.command.specs.declared.Command.{Command}
use Rattle.encode.specs.Encode.{EncodeIs}

pub record OneAnswer : Type 0 where
  pub encode : (command : Command) (hops buffer : List ℕ) → OnlyBoth (EncodeIs command hops buffer)
