-- A scan, a name and how much of a name is sent have one answer each.
use Rattle.std.specs.Prelude.{ℕ}
use Rattle.refusals.specs.OneAnswer.{ToldApart}
use Rattle.names.specs.Names.{named, name_sent}
use Rattle.refusals.specs.Refusals.{consumed}

pub record OneAnswer : Type 0 where
  pub find-nul : ToldApart (consumed {A = ℕ})
  pub name : (room : ℕ) → ToldApart (named room)
  pub sent : ToldApart name_sent
