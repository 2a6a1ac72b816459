-- What reading and writing back a command frame come to, beside `encode`. All for every slice of bytes, every hop part, command and buffer.
use Rattle.std.specs.Prelude.{true, ◌≡◌, ◌↔◌, List, ◌++◌, ℕ, Result, Ok, ◌≤◌, ◌<◌, length, take, drop}
use Rattle.refusals.specs.Refusals.{ok, refused, incomplete_data}
use Rattle.refusals.specs.declared.EncodeError.{EncodeError}
use Rattle.refusals.specs.declared.WriteBackError.{WriteBackError}
use Rattle.refusals.specs.OneAnswer.{OnlyOne, OnlyBoth}
use Rattle.packer.specs.Nearness.{Bytes}
use Rattle.frame.specs.Opened.{Missing}
use Rattle.raw_command.specs.Commands.{Plain, plain_of, form_of}
use Rattle.raw_command.specs.Laws.{Fits}
use Rattle.raw_command.specs.declared.RawCommand.{RawCommand}
use Rattle.command.specs.Commands.{raw_of}
use Rattle.command.specs.declared.Command.{Command}
use Rattle.encode.specs.Payload.{hop_bytes}
use Rattle.encode.specs.Encode.{EncodeIs, encoded}
use Rattle.command_reader.specs.Reader.{CommandFrame, read_of, hop_part_of, ReadIs}
use Rattle.command_reader.specs.Writer.{is_hops, written_again, WriteIs}
use Rattle.command_reader.specs.declared.CommandRead.{CommandRead}

-- a slice is read as a frame of so many bytes, with this hop part and this command
pub record ReadAs (s : List ℕ) (count : ℕ) (hops : List ℕ) (plain : Plain) : Type 0 where
  pub answer : read_of s ≡ ok (record { count = count; hops = length hops; plain = plain })
  pub part : hop_part_of s ≡ hops

-- the numbers of a command fit their types, as in every command of the code
abbrev pub CommandFits : RawCommand → Type 0
CommandFits command = Fits (form_of (plain_of command).id) (plain_of command).value

pub record ReaderLaws : Type 0 where
  -- "Reading what `encode` wrote gives back hops and whole numbers"
  pub reads-encoded : (command : Command) (hops buffer after : List ℕ) (count : ℕ) → CommandFits (raw_of command)
      → EncodeIs command hops buffer (Ok count) after → ReadAs after count (hop_bytes hops) (plain_of (raw_of command))
  -- "writing what was read gives back the same frame", where there is room for it; bytes past it are unchanged
  pub writes-read : (s : List ℕ) → Bytes s → (r : CommandRead) (frame : CommandFrame) → ReadIs s (Ok r) → read_of s ≡ ok frame
      → (buffer after : List ℕ) (w : Result ℕ WriteBackError) → frame.count ≤ length buffer → WriteIs (hop_part_of s) r.command buffer w after
      → (written_again w ≡ ok frame.count) × (after ≡ take frame.count s ++ drop frame.count buffer)
  -- reading what was written gives back the hop part and the command
  pub reads-written : (hops : List ℕ) (command : RawCommand) (buffer after : List ℕ) (count : ℕ) → CommandFits command
      → WriteIs hops command buffer (Ok count) after → ReadAs after count hops (plain_of command)
  -- `encode` is the writer after turning floats into whole numbers: the same answer, and the same bytes in the buffer
  pub encode-writes : (command : Command) (hops buffer after other : List ℕ) (r : Result ℕ EncodeError) (w : Result ℕ WriteBackError)
      → EncodeIs command hops buffer r after → WriteIs (hop_bytes hops) (raw_of command) buffer w other
      → (encoded r ≡ written_again w) × (after ≡ other)
  -- two frames with one reading are the same frame
  pub one-frame : (s t : List ℕ) → Bytes s → Bytes t → (count : ℕ) (hops : List ℕ) (plain : Plain) → ReadAs s count hops plain → ReadAs t count hops plain
      → take count s ≡ take count t
  -- a hop part of the form is one that `encode` writes for some hops
  pub hops-form : (part : List ℕ) → (is_hops part ≡ true) ↔ ((ids : List ℕ) × (part ≡ hop_bytes ids))

-- How many bytes tell: the laws that the theory of reading asks for
pub record ReaderTells : Type 0 where
  -- an accepted frame lies in the slice; "The longest command frame is 260 bytes"
  pub sized : (s : List ℕ) (frame : CommandFrame) → read_of s ≡ ok frame → (0 < frame.count) × (frame.count ≤ length s)
  pub at_most : (s : List ℕ) → Bytes s → (frame : CommandFrame) → read_of s ≡ ok frame → frame.count ≤ 260
  -- an answer other than 1 stands when bytes are appended
  pub prefix : (xs ys : List ℕ) → (read_of xs ≡ refused incomplete_data → ⊥) → read_of (xs ++ ys) ≡ read_of xs
  -- 1 is given if some of the frame is missing, and only then: the slice is empty, or behind a right start byte has fewer bytes than the declared length + 5
  pub waits : (s : List ℕ) → (read_of s ≡ refused incomplete_data) ↔ Missing s
  -- so 260 bytes are always enough to tell
  pub enough : (s : List ℕ) → Bytes s → 260 ≤ length s → read_of s ≡ refused incomplete_data → ⊥

pub record OneAnswer : Type 0 where
  pub read-command : (s : List ℕ) → OnlyOne (ReadIs s)
  pub write-command : (hops : List ℕ) (command : RawCommand) (l : List ℕ) → OnlyBoth (WriteIs hops command l)
