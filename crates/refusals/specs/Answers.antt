-- Answers, one after the other. Document 01, "The envelope": "`decode` reads from the left and answers at the first trouble."
use Rattle.std.specs.Prelude.{Bool, true, false, ℕ}
use Rattle.refusals.specs.Refusals.{Refusal, Answer, ok, refused}

-- what follows a value, or the refusal
abbrev pub and_then : {A B : Type 0} → Answer A → (A → Answer B) → Answer B
and_then (ok value) next = next value
and_then (refused why) next = refused why

-- a test on the way: unless it holds, the refusal
abbrev pub unless : {A : Type 0} → Bool → Refusal → Answer A → Answer A
unless true why next = next
unless false why next = refused why

-- the place that is given, or another
abbrev pub place_or : ℕ → Answer ℕ → ℕ
place_or other (ok place) = place
place_or other (refused why) = other
