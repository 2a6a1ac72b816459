-- `open` and `finish` have one answer each; `wrap` has one answer, and leaves one buffer.
use Rattle.std.specs.Prelude.{◌≡◌, List, ℕ, Result}
use Rattle.refusals.specs.Refusals.{consumed}
use Rattle.refusals.specs.OneAnswer.{OnlyOne, OnlyBoth}
use Rattle.refusals.specs.declared.DecodeError.{DecodeError}
use Rattle.frame.specs.Opening.{finish_of, open_of}
use Rattle.frame.specs.Wrapping.{WrapIs}

pub record OneAnswer : Type 0 where
  pub opens : (s : List ℕ) → OnlyOne (λ (r : Result ℕ DecodeError). consumed r ≡ open_of s)
  pub finishes : (s : List ℕ) (n : ℕ) → OnlyOne (λ (r : Result ℕ DecodeError). consumed r ≡ finish_of s n)
  pub wraps : (n : ℕ) (buffer : List ℕ) → OnlyBoth (WrapIs n buffer)
