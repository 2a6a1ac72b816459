-- What a successful `encode` leaves in the buffer: a frame that carries the payload.
use Rattle.std.specs.Prelude.{◌≡◌, List, ◌++◌, ℕ, Ok, drop}
use Rattle.frame.specs.Frame.{short, frame_of, payload_in, Framed}
use Rattle.command.specs.declared.Command.{Command}
use Rattle.encode.specs.Encode.{EncodeIs}
use Rattle.encode.specs.Payload.{payload_of}

pub record WritesFrame (command : Command) (hops buffer after : List ℕ) (count : ℕ) : Type 0 where
  -- the buffer begins with the frame, and is as it was behind it
  pub begins : after ≡ frame_of short (payload_of command hops) ++ drop count buffer
  -- read from its first byte, it is a frame around that payload
  pub framed : Framed short after
  pub payload : payload_in short after ≡ payload_of command hops

abbrev pub EncodeWrites : Type 0
EncodeWrites =
    (command : Command) (hops buffer after : List ℕ) (count : ℕ) → EncodeIs command hops buffer (Ok count) after
    → WritesFrame command hops buffer after count
