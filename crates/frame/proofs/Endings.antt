-- What follows the payload: a law for each way out of `finish`, from the tests that lead there; and the end of a frame by the places of its parts.
use mathlib.Core.Path.{◌≡◌, sym, ap, ◌∙◌}
use mathlib.Core.List.{List, ◌++◌}
use Prim.Native.Nat.{ℕ, ◌+◌, ◌-◌, ◌≤◌, ◌<◌}
use native.Mathlib.Omega.{arith}
use lib.Dec.{eqb}
use lib.ListN.{length, get_or, take, drop}
use lib.Seq.{get_or-take}
use borrow.Author.Tests.{eq-eqb, ne_eqb, eqb-true}
use Rattle.refusals.specs.Refusals.{Refusal, ok, refused, incomplete_data, invalid_frame, checksum_mismatch}
use Rattle.refusals.proofs.Answers.{Known, Kept, known-given, known-then, known-unless, Kept-then, kept-unless, given-same, given-then, given-unless}
use Rattle.checksum.specs.Xmodem.{checksum_of}
use Rattle.packer.specs.Numbers.{be_at}
use Rattle.packer.specs.Unpacking.{unsigned_at}
use Rattle.packer.proofs.Places.{got, lacking, read-given}
use Rattle.packer.proofs.Kept.{own-there, number-known, number-kept}
use Rattle.packer.proofs.Numbers.{number-own}
use Rattle.frame.specs.Opening.{byte_at, payload_part, judge_sum_of, finish_of}
use Rattle.frame.proofs.Cases.{by_order}
use Rattle.frame.proofs.Places.{byte-got, byte-lacking, byte-given, byte-known, byte-kept, payload-kept, payload-own}

-- ---- the sum

module _ (s : List ℕ) (n expected actual : ℕ) (sum : actual ≡ checksum_of (take (n + 2 - 2) (drop 2 s))) where
  computed : checksum_of (payload_part n s) ≡ actual
  unfolding payload_part
  computed = let all : n + 2 - 2 ≡ n = omega arith in sym (rw all at sum)

  pub sum-right : expected ≡ actual → ok (n + 5) ≡ judge_sum_of s n expected
  unfolding judge_sum_of
  sum-right same = rw (computed, eq-eqb expected actual same)

  pub sum-wrong : (expected ≡ actual → ⊥) → refused (checksum_mismatch expected actual) ≡ judge_sum_of s n expected
  unfolding judge_sum_of
  sum-wrong differs = rw (computed, ne_eqb expected actual differs)

-- ---- the sum and the end byte

module _ (s : List ℕ) (n : ℕ) where
  pub no-sum : (why : Refusal) → refused why ≡ unsigned_at 2 s (n + 2) → refused why ≡ finish_of s n
  unfolding finish_of
  no-sum why e = rw (← e)

  module _ (carried : ℕ × ℕ) (read : ok carried ≡ unsigned_at 2 s (n + 2)) where
    -- the end byte stands behind the sum
    pub after-sum : carried.1 ≡ n + 4
    after-sum =
        let place = ap (λ (r : ℕ × ℕ). r.1) (read-given 2 (be_at s (n + 2) 2) s (n + 2) carried (sym read)).1 in
        omega arith

    pub no_end : length s ≤ n + 4 → refused incomplete_data ≡ finish_of s n
    unfolding finish_of
    no_end past = rw (← read, byte-lacking s (n + 4) past)

    pub end-wrong : n + 4 < length s → (get_or s (n + 4) 0 ≡ 3 → ⊥) → refused invalid_frame ≡ finish_of s n
    unfolding finish_of
    end-wrong there differs = rw (← read, byte-got s (n + 4) there, ne_eqb _ _ differs)

    pub end-right : n + 4 < length s → get_or s (n + 4) 0 ≡ 3 → judge_sum_of s n carried.0 ≡ finish_of s n
    unfolding finish_of
    end-right there same = rw (← read, byte-got s (n + 4) there, eq-eqb _ _ same)

-- ---- the end of a frame around n payload bytes, by the places of its parts

pub record Ended (s : List ℕ) (n : ℕ) : Type 0 where
  pub there : n + 5 ≤ length s
  pub sum : be_at s (n + 2) 2 ≡ checksum_of (payload_part n s)
  pub end : get_or s (n + 4) 0 ≡ 3

pub finish-ended : (s : List ℕ) (n count : ℕ) → finish_of s n ≡ ok count → (count ≡ n + 5) × Ended s n
unfolding finish_of judge_sum_of
finish-ended s n count e =
    let carried = given-then (unsigned_at 2 s (n + 2)) _ count e in
    let last = given-then (byte_at s (n + 4)) _ count carried.second in
    let right = given-unless (eqb last.value 3) invalid_frame _ count last.second in
    let sum = given-unless (eqb carried.value.0 (checksum_of (payload_part n s))) _ _ count right.then in
    let number = read-given 2 (be_at s (n + 2) 2) s (n + 2) carried.value carried.first in
    let byte = byte-given s (n + 4) last.value last.first in (
      given-same (sym sum.then),
      record {
        there = omega arith;
        sum = ap (λ (read : ℕ × ℕ). read.0) number.1 ∙ eqb-true _ _ sum.holds;
        end = byte.1 ∙ eqb-true _ _ right.holds;
      },
    )

pub ended-finish : (s : List ℕ) (n : ℕ) → Ended s n → finish_of s n ≡ ok (n + 5)
unfolding judge_sum_of
ended-finish s n ended =
    let last : n + 4 < length s = omega (arith, ended.there) in
    let number = got 2 (be_at s (n + 2) 2) s (n + 2) (omega (arith, ended.there)) in
    let sum : judge_sum_of s n (be_at s (n + 2) 2) ≡ ok (n + 5) = rw (eq-eqb _ _ ended.sum) in
    sym (end-right s n _ (sym number) last ended.end) ∙ sum

-- it does not hang on what follows it
pub ended-own : (s : List ℕ) (n : ℕ) → Ended s n → Ended (take (n + 5) s) n
ended-own s n ended =
    record {
      there = own-there (n + 5) (n + 5) s (omega arith) ended.there;
      sum = number-own 2 s (n + 2) (n + 5) (omega arith) ∙ ended.sum ∙ ap checksum_of (sym (payload-own n (n + 5) s (omega arith)));
      end = get_or-take (n + 5) s (n + 4) 0 (omega arith) ∙ ended.end;
    }

-- ---- when it waits

-- InvalidFrame is no IncompleteData
pub invalid-differs : invalid_frame.number ≡ 1 → ⊥
invalid-differs e = omega arith

sum-known : (s : List ℕ) (n expected : ℕ) → Known (judge_sum_of s n expected)
unfolding judge_sum_of
sum-known s n expected =
    known-unless (eqb expected (checksum_of (payload_part n s))) (checksum_mismatch expected (checksum_of (payload_part n s))) _ (λ e. omega arith) (λ right. known-given (n + 5))

pub finish-known : (s : List ℕ) (n : ℕ) → n + 5 ≤ length s → Known (finish_of s n)
unfolding finish_of
finish-known s n there =
    known-then _ _ (number-known 2 s (n + 2) (omega arith)) (λ carried first.
    known-then _ _ (byte-known s (n + 4) (omega arith)) (λ last second.
    known-unless (eqb last 3) invalid_frame _ invalid-differs (λ right. sum-known s n carried.0)))

-- a byte of the sum is missing, or the end byte
pub finish-waits : (s : List ℕ) (n : ℕ) → length s < n + 5 → finish_of s n ≡ refused incomplete_data
finish-waits s n short =
    by_order (length s) (n + 4)
    (λ less. sym (no-sum s n incomplete_data (sym (lacking 2 (be_at s (n + 2) 2) s (n + 2) (omega arith)))))
    (λ more. sym (no_end s n _ (sym (got 2 (be_at s (n + 2) 2) s (n + 2) (omega arith))) (omega arith)))

-- ---- more bytes leave it as it is

module _ (xs ys : List ℕ) where
  sum_kept : (n expected : ℕ) → n + 2 ≤ length xs → Kept (judge_sum_of xs n expected) (judge_sum_of (xs ++ ys) n expected)
  unfolding judge_sum_of
  sum_kept n expected there known = rw (payload-kept n xs ys there)

  pub finish-kept : (n : ℕ) → Kept (finish_of xs n) (finish_of (xs ++ ys) n)
  unfolding finish_of
  finish-kept n =
      Kept-then _ _ _ _ (number-kept 2 xs ys (n + 2)) (λ carried first.
      Kept-then _ _ _ _ (byte-kept xs ys (n + 4)) (λ last second.
      kept-unless (eqb last 3) invalid_frame _ _ (λ right.
      let read = byte-given xs (n + 4) last second in
      sum_kept n carried.0 (omega arith))))
