-- The judge that a `decode` makes. Document 01, "The stream": "A good frame is one that `decode` accepts at its first byte"; "where `decode` answers 1
-- the reading stops; otherwise it moves on one byte". Over any `decode`: what it answers, and the reply.
use Rattle.std.specs.Prelude.{Bool, ◌&&◌, cond, List, ℕ, eqb, length}
use Rattle.refusals.specs.Refusals.{Refusal, Answer, ok, refused}
use Rattle.stream.specs.Reading.{Verdict, good, not_yet, moves_on, Judge}

-- refusal 1, with which nothing is returned
abbrev pub is_incomplete_data : Refusal → Bool
is_incomplete_data why = eqb why.number 1 && eqb (length why.values) 0

module _ {R : Type 0} where
  abbrev pub verdict_of : Answer ℕ → R → Verdict R
  verdict_of (ok count) reply = good count reply
  verdict_of (refused why) reply = cond (is_incomplete_data why) not_yet moves_on

  -- what `decode` says of the bytes from a position on
  abbrev pub judge_by : (List ℕ → Answer ℕ) → (List ℕ → R) → Judge R
  judge_by answer reply bytes = verdict_of (answer bytes) (reply bytes)
