-- Writing a frame and reading its parts undo each other.
use Rattle.std.specs.Prelude.{◌≡◌, List, ◌++◌, ℕ, ◌+◌, ◌^◌, ◌<◌, length, drop}
use Rattle.format.specs.Format.{payload_at, frame_extra, payload_max}
use Rattle.packer.specs.Nearness.{Bytes}
use Rattle.frame.specs.Frame.{Style, short, frame_of, payload_from, frame_size, declared, payload_in, Framed}

-- what is written around a payload, whatever follows it, has that payload as its part
pub record WrittenParts (style : Style) (payload rest : List ℕ) : Type 0 where
  pub framed : Framed style (frame_of style payload ++ rest)
  pub says : declared style (frame_of style payload ++ rest) ≡ length payload
  pub carries : payload_in style (frame_of style payload ++ rest) ≡ payload

pub record FrameLaws (style : Style) : Type 0 where
  -- of a payload whose length the frame's can say
  pub written : (payload rest : List ℕ) → length payload < 256 ^ style.width → WrittenParts style payload rest
  -- a slice that begins with a frame begins with what is written around its payload
  pub read : (s : List ℕ) → Bytes s → Framed style s → s ≡ frame_of style (payload_in style s) ++ drop (frame_size style (declared style s)) s
  pub size : (payload : List ℕ) → length (frame_of style payload) ≡ frame_size style (length payload)

-- the numbers that the code has are those of the short frame
pub record ShortNumbers : Type 0 where
  pub at : payload_from short ≡ payload_at
  pub extra : (n : ℕ) → frame_size short n ≡ n + frame_extra
  pub most : 256 ^ short.width ≡ payload_max + 1
