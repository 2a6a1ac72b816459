-- A slice opened as a frame, whatever its payload holds: which refusal, or how many bytes the frame takes. Document 01, "The envelope", and document
-- 02, W2. The parts of a frame are described in Frame.antt.
use Rattle.std.specs.Prelude.{ℕ, ◌+◌, cond, List, eqb, ltb, length, get_or, take, drop}
use Rattle.refusals.specs.Refusals.{Answer, ok, refused, incomplete_data, invalid_frame, checksum_mismatch}
use Rattle.refusals.specs.Answers.{and_then, unless}
use Rattle.format.specs.Format.{frame_start, frame_end, payload_at, frame_extra}
use Rattle.checksum.specs.Xmodem.{checksum_of}
use Rattle.packer.specs.Unpacking.{unsigned_at}

-- "A read past the end of the slice is 1."
unfoldable pub byte_at : List ℕ → ℕ → Answer ℕ
byte_at s at = cond (ltb at (length s)) (ok (get_or s at 0)) (refused incomplete_data)

-- the n payload bytes
unfoldable pub payload_part : ℕ → List ℕ → List ℕ
payload_part n s = take n (drop payload_at s)

-- "checksum (4)": expected = the two bytes carried, actual = the sum computed. "On success the count is n + 5"
unfoldable pub judge_sum_of : List ℕ → ℕ → ℕ → Answer ℕ
judge_sum_of s n expected =
    unless (eqb expected (checksum_of (payload_part n s))) (checksum_mismatch expected (checksum_of (payload_part n s))) (ok (n + frame_extra))

-- "two checksum bytes; end byte (2); checksum (4)"
unfoldable pub finish_of : List ℕ → ℕ → Answer ℕ
finish_of s n =
    and_then (unsigned_at 2 s (n + payload_at)) (λ carried.
    and_then (byte_at s (n + (payload_at + 2))) (λ last.
    unless (eqb last frame_end) invalid_frame (judge_sum_of s n carried.0)))

-- "The start byte is judged first, then presence of length + 5 bytes, end byte, checksum": 1 for an empty slice, 2 start, 1, 2 end, 4. If any of the
-- length + 5 bytes is missing, so is the last of them, and `finish_of` gives 1. The payload may be empty, and what it holds is not judged.
unfoldable pub open_of : List ℕ → Answer ℕ
open_of s =
    and_then (byte_at s 0) (λ start.
    unless (eqb start frame_start) invalid_frame
    (and_then (byte_at s 1) (λ n. finish_of s n)))
