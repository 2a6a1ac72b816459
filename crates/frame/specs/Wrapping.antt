-- A payload wrapped in a frame: what is answered, and what the whole buffer then holds. Document 01, "Six refusals".
use Rattle.std.specs.Prelude.{◌≡◌, cond, List, ◌++◌, ℕ, Result, ltb, length, take, drop}
use Rattle.refusals.specs.Refusals.{Answer, ok, refused, buffer_too_small, payload_too_long}
use Rattle.refusals.specs.declared.EncodeError.{EncodeError}
use Rattle.format.specs.Format.{payload_at, payload_max}
use Rattle.packer.specs.Packing.{packed}
use Rattle.frame.specs.Frame.{short, frame_of, frame_size}

-- "`encode` tests 6, then 5": what a payload of n bytes into so much room answers. The count of a success is that of its frame, "n + 5 bytes".
unfoldable pub wrap_answer : ℕ → ℕ → Answer ℕ
wrap_answer n room =
    cond (ltb payload_max n) (refused payload_too_long) (cond (ltb room (frame_size short n)) (refused buffer_too_small) (ok (frame_size short n)))

-- the buffer after an answer: "on success the bytes past what was written are unchanged"; "nothing; buffer unchanged" on a refusal
abbrev pub held_after : Answer ℕ → List ℕ → List ℕ → List ℕ
held_after (ok count) frame l = frame ++ drop (length frame) l
held_after (refused r) frame l = l

-- what a payload into a buffer leaves there
unfoldable pub wrap_after : List ℕ → List ℕ → List ℕ
wrap_after payload l = held_after (wrap_answer (length payload) (length l)) (frame_of short payload) l

-- wrapping the n bytes that stand at byte 2 of the buffer l: `r` is answered, and `after` is what the buffer then holds
pub record WrapIs (n : ℕ) (l : List ℕ) (r : Result ℕ EncodeError) (after : List ℕ) : Type 0 where
  pub answer : packed r ≡ wrap_answer n (length l)
  pub holds : after ≡ held_after (wrap_answer n (length l)) (frame_of short (take n (drop payload_at l))) l
