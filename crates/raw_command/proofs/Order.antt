-- The order of judging a plain command: one law for each way out of `unpack_value` and `unpack_command`, from the tests that lead there.
use mathlib.Core.Bool.{Bool, true, false, not}
use mathlib.Core.Path.{◌≡◌, sym, ◌∙◌}
use mathlib.Core.List.{List}
use Prim.Native.Nat.{ℕ, ◌+◌, ◌-◌, ◌≤◌, ◌<◌}
use native.Mathlib.Omega.{arith}
use lib.Dec.{eqb, ltb}
use lib.ListN.{length, get_or, take, drop, length-drop}
use lib.Seq.{take_all}
use borrow.Author.Tests.{eq-eqb, ne_eqb, lt-ltb, le-ltb}
use Rattle.refusals.specs.Refusals.{Refusal, ok, refused, invalid_frame}
use Rattle.refusals.proofs.Answers.{Known, known-given, known-then, known-unless}
use Rattle.format.specs.Format.{all_ids}
use Rattle.format.specs.Ids.{id_named}
use Rattle.format.specs.declared.CommandId.{CommandId}
use Rattle.packer.specs.Numbers.{be_at}
use Rattle.raw_command.specs.Commands.{form_of, width_of, most_of}
use Rattle.raw_command.specs.Reading.{is_forward, at_most, numbered, plain_with, plain_in}
use Rattle.raw_command.specs.declared.Carried.{Carried}
use Rattle.format.proofs.Ids.{id-given, id-known}

-- ---- behind the id

module _ (id : CommandId) (bytes : List ℕ) (carried : Carried) (says : (carried.width ≡ width_of (form_of id)) × (carried.most ≡ most_of (form_of id))) where
  pub size-wrong : (length bytes ≡ 1 + carried.width → ⊥) → refused invalid_frame ≡ plain_with id bytes
  unfolding plain_with
  size-wrong differs = rw (← says.0, ne_eqb (length bytes) (1 + carried.width) differs)

  -- the bytes behind the id are tested as a part that is lent
  module _ (size : length bytes ≡ 1 + carried.width) {under : Bool} (tested : under ≡ at_most carried.most (take (length bytes - 1) (drop 1 bytes))) where
    lent : take (length bytes - 1) (drop 1 bytes) ≡ drop 1 bytes
    lent = take_all (length bytes - 1) (drop 1 bytes) (omega (arith, length-drop 1 bytes))

    test-of : under ≡ at_most (most_of (form_of id)) (drop 1 bytes)
    test-of = tested ∙ rw (lent, says.1)

    pub byte-wrong : under ≡ false → refused invalid_frame ≡ plain_with id bytes
    unfolding plain_with
    byte-wrong over = rw (← says.0, eq-eqb (length bytes) (1 + carried.width) size, ← test-of, over)

    pub value-right : under ≡ true → ok (numbered id (be_at bytes 1 (width_of (form_of id)))) ≡ plain_with id bytes
    unfolding plain_with
    value-right allowed = rw (eq-eqb (length bytes) (1 + width_of (form_of id)) (size ∙ rw says.0), ← test-of, allowed)

-- ---- from the left

module _ (bytes : List ℕ) where
  pub empty : length bytes ≤ 0 → refused invalid_frame ≡ plain_in bytes
  unfolding plain_in
  empty none = rw (le-ltb 0 (length bytes) none)

  module _ (some : 0 < length bytes) where
    pub a-hop : get_or bytes 0 0 ≡ 34 → refused invalid_frame ≡ plain_in bytes
    unfolding plain_in
    a-hop hop = rw (lt-ltb 0 (length bytes) some, eq-eqb (get_or bytes 0 0) 34 hop)

    module _ (no-hop : get_or bytes 0 0 ≡ 34 → ⊥) where
      pub unknown : {why : Refusal} → refused why ≡ id_named (get_or bytes 0 0) → refused why ≡ plain_in bytes
      unfolding plain_in
      unknown named = rw (lt-ltb 0 (length bytes) some, ne_eqb (get_or bytes 0 0) 34 no-hop, ← named)

      pub known : (id : CommandId) → ok id ≡ id_named (get_or bytes 0 0) → plain_with id bytes ≡ plain_in bytes
      unfolding plain_in
      known id named = rw (lt-ltb 0 (length bytes) some, ne_eqb (get_or bytes 0 0) 34 no-hop, ← named)

      -- and it is no ForwardCan
      pub plainly : (id : CommandId) → ok id ≡ id_named (get_or bytes 0 0) → is_forward id ≡ false
      plainly id named = rw (← id-given _ (get_or bytes 0 0) id (sym named)) (ne_eqb (get_or bytes 0 0) 34 no-hop)

-- ---- it is never IncompleteData

pub plain_known : (bytes : List ℕ) → Known (plain_in bytes)
unfolding plain_in plain_with
plain_known bytes =
    known-unless (ltb 0 (length bytes)) invalid_frame _ differs (λ some.
    known-unless (not (eqb (get_or bytes 0 0) 34)) invalid_frame _ differs (λ no-hop.
    known-then _ _ (id-known all_ids (get_or bytes 0 0)) (λ id named.
    known-unless (eqb (length bytes) (1 + width_of (form_of id))) invalid_frame _ differs (λ size.
    known-unless (at_most (most_of (form_of id)) (drop 1 bytes)) invalid_frame _ differs (λ under. known-given _)))))
  where
    differs : invalid_frame.number ≡ 1 → ⊥
    differs e = omega arith
