-- Each reader has one answer, and each writer one answer and one slice after it.
use Rattle.std.specs.Prelude.{List, ℕ, ℤ, Float}
use Rattle.refusals.specs.OneAnswer.{ToldApart, OnlyBoth}
use Rattle.refusals.specs.Refusals.{consumed}
use Rattle.packer.specs.Packing.{PackIs}

pub record OneAnswer : Type 0 where
  pub numbers : ToldApart (consumed {A = ℕ × ℕ})
  pub signed-numbers : ToldApart (consumed {A = ℤ × ℕ})
  pub floats : ToldApart (consumed {A = Float × ℕ})
  pub bytes : ToldApart (consumed {A = List ℕ × ℕ})
  pub packs : (bytes l : List ℕ) (at : ℕ) → OnlyBoth (PackIs bytes l at)
