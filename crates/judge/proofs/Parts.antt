-- A good frame by the places of its parts: `judge` gives a count where they are right, and nowhere else.
use mathlib.Core.Path.{◌≡◌, refl, sym, ap, ◌∙◌}
use mathlib.Core.List.{List}
use Prim.Native.Nat.{ℕ, ◌+◌, ◌-◌, ◌<◌}
use native.Mathlib.Omega.{arith}
use lib.Dec.{eqb}
use lib.ListN.{length, get_or, drop}
use borrow.Author.Tests.{eq-eqb, eqb-true}
use Rattle.refusals.specs.Refusals.{ok, invalid_frame}
use Rattle.refusals.proofs.Answers.{given-then, given-unless}
use Rattle.frame.specs.Opening.{byte_at}
use Rattle.frame.proofs.Places.{byte-given}
use Rattle.frame.proofs.Heads.{head-given}
use Rattle.frame.proofs.Endings.{Ended, finish-ended, ended-finish}
use Rattle.layout.specs.Replies.{fields_end}
use Rattle.judge.specs.Judge.{judge_of}
use Rattle.judge.proofs.Order.{behind_length, headed}

-- a good frame at the start of s, around n payload bytes
pub record FrameParts (s : List ℕ) (n : ℕ) : Type 0 where
  pub start : get_or s 0 0 ≡ 2
  pub declared : n ≡ get_or s 1 0
  pub fields : fields_end (get_or s 2 0) (drop 2 s) 1 ≡ ok n
  pub ended : Ended s n

-- ---- what is judged good is a good frame, with its count

-- the frame, by its length byte
pub judge-frame : (s : List ℕ) (count : ℕ) → judge_of s ≡ ok count → (count ≡ get_or s 1 0 + 5) × FrameParts s (get_or s 1 0)
unfolding judge_of
judge-frame s count e =
    let n = get_or s 1 0 in
    let start = head-given s (behind_length s) count e in
    let id = given-then (byte_at s 2) _ count start.1 in
    let read = given-then (fields_end id.value (drop 2 s) 1) _ count id.second in
    let same = given-unless (eqb n read.value) invalid_frame _ count read.second in
    let third = byte-given s 2 id.value id.first in
    let ended = finish-ended s n count same.then in (
      ended.0,
      record {
        start = start.0;
        declared = refl;
        fields = rw third.1 (read.first ∙ ap ok (sym (eqb-true _ _ same.holds)));
        ended = ended.1;
      },
    )

-- the frame, by the count
pub judge-good : (s : List ℕ) (count : ℕ) → judge_of s ≡ ok count → FrameParts s (count - 5)
judge-good s count e =
    let frame = judge-frame s count e in
    let n : count - 5 ≡ get_or s 1 0 = omega arith in
    rw n frame.1

-- ---- and every good frame is judged good

pub good-judged : (s : List ℕ) (n : ℕ) → FrameParts s n → judge_of s ≡ ok (n + 5)
good-judged s n good =
    let three : 2 < length s = omega (arith, good.ended.there) in
    rw (headed s good.start three n good.declared, good.fields, eq-eqb n n refl) (ended-finish s n good.ended)
