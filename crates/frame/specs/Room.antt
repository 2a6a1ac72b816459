-- The test of the room alone, of a payload that isn't too long for its length byte: `encode`'s second test, the last of a reply's writer.
use Rattle.std.specs.Prelude.{cond, ℕ, ltb}
use Rattle.refusals.specs.Refusals.{Answer, ok, refused, buffer_too_small}
use Rattle.frame.specs.Frame.{short, frame_size}

-- what a payload of n bytes into so much room answers, if its length can be said. The count of a success is that of its frame, "n + 5 bytes".
abbrev pub room_answer : ℕ → ℕ → Answer ℕ
room_answer n room = cond (ltb room (frame_size short n)) (refused buffer_too_small) (ok (frame_size short n))
