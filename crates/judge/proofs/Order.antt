-- The order of judging: one law for each way out of `judge`, from the tests that lead there.
use mathlib.Core.Path.{◌≡◌, ◌∙◌}
use mathlib.Core.List.{List}
use Prim.Native.Nat.{ℕ, ◌-◌, ◌≤◌, ◌<◌}
use native.Mathlib.Omega.{arith}
use lib.Dec.{eqb}
use lib.ListN.{length, get_or, take, drop}
use borrow.Author.Tests.{eq-eqb, ne_eqb}
use Rattle.refusals.specs.Refusals.{Refusal, Answer, ok, refused, incomplete_data, invalid_frame}
use Rattle.refusals.specs.Answers.{and_then, unless}
use Rattle.packer.proofs.Places.{lent-whole}
use Rattle.frame.specs.Opening.{byte_at, finish_of}
use Rattle.frame.proofs.Places.{byte-got, byte-lacking}
use Rattle.frame.proofs.Heads as head
use Rattle.layout.specs.Replies.{fields_end}
use Rattle.judge.specs.Judge.{judge_of}

-- what is judged behind the id, and behind the length byte n
abbrev pub behind_id : List ℕ → ℕ → ℕ → Answer ℕ
behind_id s n id = and_then (fields_end id (drop 2 s) 1) (λ read. unless (eqb n read) invalid_frame (finish_of s n))

abbrev pub behind_length : List ℕ → ℕ → Answer ℕ
behind_length s n = and_then (byte_at s 2) (behind_id s n)

module _ (s : List ℕ) where
  pub no_start : length s ≤ 0 → refused incomplete_data ≡ judge_of s
  unfolding judge_of
  no_start past = head.no_start s (behind_length s) past

  pub start-wrong : 0 < length s → (get_or s 0 0 ≡ 2 → ⊥) → refused invalid_frame ≡ judge_of s
  unfolding judge_of
  start-wrong there differs = head.start-wrong s (behind_length s) there differs

  module _ (start : get_or s 0 0 ≡ 2) where
    pub no_length : 0 < length s → length s ≤ 1 → refused incomplete_data ≡ judge_of s
    unfolding judge_of
    no_length there past = head.no_length s (behind_length s) start there past

    head-right : 1 < length s → judge_of s ≡ behind_length s (get_or s 1 0)
    unfolding judge_of
    head-right there = head.head-right s (behind_length s) start there

    pub no-id : 1 < length s → length s ≤ 2 → refused incomplete_data ≡ judge_of s
    no-id there past = rw (head-right there, byte-lacking s 2 past)

    module _ (there : 2 < length s) (n : ℕ) (declared : n ≡ get_or s 1 0) where
      -- three bytes are there, and the first of them starts a frame
      pub headed : judge_of s ≡ behind_id s n (get_or s 2 0)
      headed =
          let second : 1 < length s = omega arith in
          head-right second ∙ rw (byte-got s 2 there, declared)

      pub fields-wrong : (why : Refusal) → refused why ≡ fields_end (get_or s 2 0) (take (length s - 2) (drop 2 s)) 1 → refused why ≡ judge_of s
      fields-wrong why e = rw (headed, ← lent-whole 2 s, ← e)

      module _ (read : ℕ) (fields : ok read ≡ fields_end (get_or s 2 0) (take (length s - 2) (drop 2 s)) 1) where
        pub length-wrong : (n ≡ read → ⊥) → refused invalid_frame ≡ judge_of s
        length-wrong differs = rw (headed, ← lent-whole 2 s, ← fields, ne_eqb n read differs)

        pub length-right : n ≡ read → finish_of s n ≡ judge_of s
        length-right same = rw (headed, ← lent-whole 2 s, ← fields, eq-eqb n read same)

-- what the check is given for `judge`
pub ruleset ways = (no_start, start-wrong, no_length, no-id, fields-wrong, length-wrong, length-right)
