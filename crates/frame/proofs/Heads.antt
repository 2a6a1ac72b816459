-- The start byte and the length byte, in front of whatever is judged next: a law for each way out, and what an answer was made from.
use mathlib.Core.Path.{◌≡◌, ap, ◌∙◌}
use mathlib.Core.List.{List, ◌++◌}
use Prim.Native.Nat.{ℕ, ◌≤◌, ◌<◌}
use native.Mathlib.Omega.{arith}
use lib.Dec.{eqb}
use lib.ListN.{length, get_or}
use borrow.Author.Tests.{eq-eqb, ne_eqb, eqb-true}
use Rattle.refusals.specs.Refusals.{Answer, ok, refused, incomplete_data, invalid_frame}
use Rattle.refusals.specs.Answers.{and_then, unless}
use Rattle.refusals.proofs.Answers.{Kept, Kept-then, kept-unless, given-then, given-unless}
use Rattle.format.specs.Format.{frame_start}
use Rattle.frame.specs.Opening.{byte_at}
use Rattle.frame.proofs.Places.{byte-got, byte-lacking, byte-given, byte-kept}

abbrev pub headed : List ℕ → (ℕ → Answer ℕ) → Answer ℕ
headed s next = and_then (byte_at s 0) (λ start. unless (eqb start frame_start) invalid_frame (and_then (byte_at s 1) next))

module _ (s : List ℕ) (next : ℕ → Answer ℕ) where
  pub no_start : length s ≤ 0 → refused incomplete_data ≡ headed s next
  no_start past = rw (byte-lacking s 0 past)

  pub start-wrong : 0 < length s → (get_or s 0 0 ≡ 2 → ⊥) → refused invalid_frame ≡ headed s next
  start-wrong there differs = rw (byte-got s 0 there, ne_eqb _ _ differs)

  module _ (start : get_or s 0 0 ≡ 2) where
    pub no_length : 0 < length s → length s ≤ 1 → refused incomplete_data ≡ headed s next
    no_length there past = rw (byte-got s 0 there, eq-eqb _ _ start, byte-lacking s 1 past)

    pub head-right : 1 < length s → headed s next ≡ next (get_or s 1 0)
    head-right there =
        let first : 0 < length s = omega arith in
        rw (byte-got s 0 first, eq-eqb _ _ start, byte-got s 1 there)

  pub head-given : (count : ℕ) → headed s next ≡ ok count → (get_or s 0 0 ≡ 2) × (next (get_or s 1 0) ≡ ok count)
  head-given count e =
      let start = given-then (byte_at s 0) _ count e in
      let right = given-unless (eqb start.value 2) invalid_frame _ count start.second in
      let length-byte = given-then (byte_at s 1) _ count right.then in
      let first = byte-given s 0 start.value start.first in
      let second = byte-given s 1 length-byte.value length-byte.first in
      (first.1 ∙ eqb-true _ _ right.holds, ap next second.1 ∙ length-byte.second)

-- more bytes leave the answer as it is, if they leave what is judged next
pub head-kept
    : (xs ys : List ℕ) (next next-after : ℕ → Answer ℕ) → ((n : ℕ) → Kept (next n) (next-after n)) → Kept (headed xs next) (headed (xs ++ ys) next-after)
head-kept xs ys next next-after kept =
    Kept-then _ _ _ _ (byte-kept xs ys 0) (λ start first.
    kept-unless (eqb start 2) invalid_frame _ _ (λ right.
    Kept-then _ _ _ _ (byte-kept xs ys 1) (λ n second. kept n)))
