-- `decode` has one answer, and a reply's number tells its kind.
use Rattle.refusals.specs.OneAnswer.{ToldApart}
use Rattle.reply.specs.Reply.{kind_number}
use Rattle.reply.specs.Decode.{decoded}

pub record OneAnswer : Type 0 where
  pub decode : ToldApart decoded
  pub kinds : ToldApart kind_number
