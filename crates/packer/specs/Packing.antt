-- Writing at a position of a lent slice: what is answered, and what the whole slice then holds. Document 01, "Six refusals": on BufferTooSmall
-- the buffer is unchanged; "on success the bytes past what was written are unchanged, here and in every later writer".
use Rattle.std.specs.Prelude.{cond, ◌≡◌, ℕ, ◌+◌, List, ◌++◌, leb, Result, length, take, drop}
use Rattle.refusals.specs.Refusals.{Answer, ok, refused, answer_by, encode_refusal, buffer_too_small}
use Rattle.refusals.specs.declared.EncodeError.{EncodeError}

-- the slice with the bytes at the place, all else as it was
unfoldable pub written : List ℕ → ℕ → List ℕ → List ℕ
written l at bytes = take at l ++ bytes ++ drop (at + length bytes) l

-- room for so many bytes at a place: where they end, or BufferTooSmall
unfoldable pub room_at : ℕ → List ℕ → ℕ → Answer ℕ
room_at width l at = cond (leb (at + width) (length l)) (ok (at + width)) (refused buffer_too_small)

-- what writing the bytes at a place answers: the place after them, or BufferTooSmall where they don't fit
unfoldable pub pack_answer : List ℕ → List ℕ → ℕ → Answer ℕ
pack_answer bytes l at = cond (leb (at + length bytes) (length l)) (ok (at + length bytes)) (refused buffer_too_small)

-- what the slice then holds: no room writes nothing
unfoldable pub pack_after : List ℕ → List ℕ → ℕ → List ℕ
pack_after bytes l at = cond (leb (at + length bytes) (length l)) (written l at bytes) l

-- what a writer returns: its value, or the refusal
abbrev pub packed : {A : Type 0} → Result A EncodeError → Answer A
packed result = answer_by encode_refusal result

-- writing the bytes at a place of l, all of them or none: `r` is answered, and `after` is what the slice then holds
pub record PackIs (bytes l : List ℕ) (at : ℕ) (r : Result ℕ EncodeError) (after : List ℕ) : Type 0 where
  pub answer : packed r ≡ pack_answer bytes l at
  pub holds : after ≡ pack_after bytes l at
