-- What one command frame at the front of a slice is read as: document 02, W2. "The start byte is judged first, then presence of length + 5 bytes, end byte, checksum, then
-- the payload from the left." The frame is described in crate `frame`, the plain command in crate `raw_command`.
use Rattle.std.specs.Prelude.{cond, ◌≡◌, List, [], ◌∷◌, ℕ, Result, Ok, Err, ◌+◌, eqb, take, drop}
use Rattle.refusals.specs.Refusals.{Answer, ok, refused, decode_refusal}
use Rattle.refusals.specs.Answers.{and_then}
use Rattle.refusals.specs.declared.DecodeError.{DecodeError}
use Rattle.format.specs.Format.{id_of, payload_at}
use Rattle.format.specs.declared.CommandId.TheVariants.{ForwardCan}
use Rattle.frame.specs.Frame.{short, payload_in}
use Rattle.frame.specs.Opening.{open_of}
use Rattle.raw_command.specs.Commands.{Plain, plain_of}
use Rattle.raw_command.specs.Reading.{plain_in}
use Rattle.raw_command.specs.declared.RawCommand.{RawCommand}
use Rattle.raw_command.specs.declared.RawCommand.TheVariants.{FwVersion}
use Rattle.command_reader.specs.declared.CommandRead.{CommandRead}

-- "the hops as the front part of the payload, 34 and id by turns": how many bytes of these stand at the front
unfoldable pub hop_size : List ℕ → ℕ
hop_size [] = 0
hop_size (first ∷ []) = 0
hop_size (first ∷ second ∷ rest) = cond (eqb first (id_of ForwardCan)) (2 + hop_size rest) 0

-- what is read: the frame's count, how many bytes its hop part has, and the plain command
pub record CommandFrame : Type 0 where
  pub count : ℕ
  pub hops : ℕ
  pub plain : Plain

-- the payload from the left: its hops, and then nothing but a plain command
unfoldable pub content_of : List ℕ → ℕ → Answer CommandFrame
content_of payload count = and_then (plain_in (drop (hop_size payload) payload)) (λ plain. ok (record { count = count; hops = hop_size payload; plain = plain }))

-- the frame, and then its payload
unfoldable pub read_of : List ℕ → Answer CommandFrame
read_of s = and_then (open_of s) (λ count. content_of (payload_in short s) count)

-- the count, or the refusal
abbrev pub count_of : Answer CommandFrame → Answer ℕ
count_of (ok command) = ok command.count
count_of (refused why) = refused why

-- the command, or the filler beside a refusal. Document 01: "A count beside a refusal is 0"
abbrev pub command_or : Answer CommandFrame → CommandFrame
command_or (ok command) = command
command_or (refused why) = record { count = 0; hops = 0; plain = plain_of FwVersion }

-- what a result tells: the count or the refusal, the command, and how many bytes are hops. Beside a refusal the command is FwVersion, and there are no hops
pub record Told : Type 0 where
  pub answer : Answer ℕ
  pub hops : ℕ
  pub command : RawCommand

abbrev pub told : Result CommandRead DecodeError → Told
told (Ok read) = record { answer = ok read.count; hops = read.hops; command = read.command }
told (Err error) = record { answer = refused (decode_refusal error); hops = 0; command = FwVersion }

-- `r` says what was read
pub record SaysRead (a : Answer CommandFrame) (r : Result CommandRead DecodeError) : Type 0 where
  pub answer : (told r).answer ≡ count_of a
  pub hops : (told r).hops ≡ (command_or a).hops
  pub command : plain_of (told r).command ≡ (command_or a).plain

abbrev pub ReadIs : List ℕ → Result CommandRead DecodeError → Type 0
ReadIs s r = SaysRead (read_of s) r

-- the hop part, by its place: at the payload. Document 01: "Where an answer is a part of lent bytes and there is none to give, the part is the empty one at the front."
abbrev pub part_place : {A : Type 0} → Answer A → ℕ
part_place (ok read) = payload_at
part_place (refused why) = 0

unfoldable pub hop_part_of : List ℕ → List ℕ
hop_part_of s = take (command_or (read_of s)).hops (drop (part_place (read_of s)) s)
