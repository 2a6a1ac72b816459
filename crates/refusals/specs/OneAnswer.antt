-- A promise leaves one answer. Document 01, "How tight the promises are": "For each, uniqueness of the answer is
-- proved". Each crate states it of its own calls, in a record of this name.
use Rattle.std.specs.Prelude.{◌≡◌}
use Rattle.refusals.specs.Refusals.{decode_refusal, encode_refusal, write_back_refusal, reply_write_refusal, feed_refusal, consumed}

-- the map tells its arguments apart: a promise that fixes the map's value fixes the answer
abbrev pub ToldApart : {A B : Type 0} → (A → B) → Type 0
ToldApart {A} f = (a b : A) → f a ≡ f b → a ≡ b

-- a promise about an answer: whatever two answers meet it are the same
abbrev pub OnlyOne : {A : Type 0} → (A → Type 0) → Type 0
OnlyOne {A} Promise = (a b : A) → Promise a → Promise b → a ≡ b

-- a promise about an answer and about what is left behind
abbrev pub OnlyBoth : {A B : Type 0} → (A → B → Type 0) → Type 0
OnlyBoth {A} {B} Promise = (a b : A) (m n : B) → Promise a m → Promise b n → (a ≡ b) × (m ≡ n)

pub record OneAnswer : Type 1 where
  pub decode-errors : ToldApart decode_refusal
  pub encode-errors : ToldApart encode_refusal
  pub write-back-errors : ToldApart write_back_refusal
  pub reply-write-errors : ToldApart reply_write_refusal
  pub feed-errors : ToldApart feed_refusal
  pub consumes : {A : Type 0} → ToldApart (consumed {A = A})
