-- What `open` takes for a frame, when it waits for more bytes, and which bytes it looks at.
use Rattle.std.specs.Prelude.{◌≡◌, ◌↔◌, ◌⊎◌, List, ◌++◌, ℕ, ◌<◌, length, take}
use Rattle.refusals.specs.Refusals.{ok, refused, incomplete_data}
use Rattle.format.specs.Format.{frame_start}
use Rattle.frame.specs.Frame.{short, start_byte, frame_size, declared, Framed}
use Rattle.frame.specs.Opening.{open_of}

-- some of the frame is missing: all of it, or, behind a right start byte, the length byte or any of the length + 5 bytes.
-- A length byte that is missing reads as 0, and then there are fewer than 5 bytes.
abbrev pub Missing : List ℕ → Type 0
Missing s = (length s ≡ 0) ⊎ ((start_byte short s ≡ frame_start) × (length s < frame_size short (declared short s)))

pub record OpenLaws : Type 0 where
  -- a count is given to frames, to no other slices, and it is the frame's size
  pub opened : (s : List ℕ) (count : ℕ) → (open_of s ≡ ok count) ↔ (Framed short s × (count ≡ frame_size short (declared short s)))
  -- 1 is given if some of the frame is missing, and only then
  pub waits : (s : List ℕ) → (open_of s ≡ refused incomplete_data) ↔ Missing s
  -- more bytes change no answer but 1
  pub prefix : (xs ys : List ℕ) → (open_of xs ≡ refused incomplete_data → ⊥) → open_of (xs ++ ys) ≡ open_of xs
  -- a frame is opened by its own bytes alone
  pub own-bytes : (s : List ℕ) (count : ℕ) → open_of s ≡ ok count → open_of (take count s) ≡ ok count
