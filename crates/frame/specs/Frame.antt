-- A frame, described once for every direction. Document 01, "The envelope": "A frame is 2, length n, n payload bytes, the checksum of the payload high
-- byte first, then 3: n + 5 bytes. All numbers are big-endian." The start byte and the width of the length are parameters.
use Rattle.std.specs.Prelude.{◌≡◌, List, [], ◌∷◌, ◌++◌, ℕ, ◌+◌, ◌≤◌, length, get_or, take, drop}
use Rattle.format.specs.Format.{frame_start, frame_end}
use Rattle.checksum.specs.Xmodem.{checksum_of}
use Rattle.packer.specs.Numbers.{be_at, big_endian}

-- a sort of frames: the start byte, and the bytes of the length
pub record Style : Type 0 where
  pub start : ℕ
  pub width : ℕ

-- document 01's: "2, length n"
abbrev pub short : Style
short = record { start = frame_start; width = 1 }

-- 1. How a payload is written as a frame.

abbrev pub length_bytes : Style → List ℕ → List ℕ
length_bytes style payload = big_endian style.width (length payload)

abbrev pub sum_bytes : List ℕ → List ℕ
sum_bytes payload = big_endian 2 (checksum_of payload)

unfoldable pub frame_of : Style → List ℕ → List ℕ
frame_of style payload = style.start ∷ (length_bytes style payload ++ (payload ++ (sum_bytes payload ++ (frame_end ∷ []))))

-- 2. The parts of a slice that begins with a frame. Places are counted from its first byte, and bytes past its end are 0.

module _ (style : Style) where
  -- where the payload begins
  abbrev pub payload_from : ℕ
  payload_from = 1 + style.width

  -- the bytes of a frame around n payload bytes, "n + 5": the start and end bytes and two of the sum are four, beside the length's
  abbrev pub frame_size : ℕ → ℕ
  frame_size n = n + (style.width + 4)

  module _ (s : List ℕ) where
    abbrev pub start_byte : ℕ
    start_byte = get_or s 0 0

    -- the length that it declares, n
    unfoldable pub declared : ℕ
    declared = be_at s 1 style.width

    -- the n payload bytes
    unfoldable pub payload_in : List ℕ
    payload_in = take declared (drop payload_from s)

    -- the sum that it carries
    unfoldable pub carried : ℕ
    carried = be_at s (payload_from + declared) 2

    unfoldable pub end_byte : ℕ
    end_byte = get_or s (payload_from + declared + 2) 0

  -- the slice begins with a frame, as far as start, length, sum and end tell; what the payload is does not matter
  pub record Framed (s : List ℕ) : Type 0 where
    pub whole : frame_size (declared s) ≤ length s
    pub start : start_byte s ≡ style.start
    pub sum : carried s ≡ checksum_of (payload_in s)
    pub end : end_byte s ≡ frame_end
