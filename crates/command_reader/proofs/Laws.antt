-- Reading and writing back undo each other, and `encode` is the writer.
use mathlib.Core.Path.{◌≡◌, sym, ap, ◌∙◌}
use mathlib.Core.List.{List, ◌++◌}
use Prim.Native.Nat.{ℕ, ◌≤◌}
use native.Mathlib.Omega.{arith}
use lib.ListN.{length, take, drop}
use borrow.Author.Tests.{eqb-true}
use Rattle.refusals.specs.Refusals.{ok, invalid_frame}
use Rattle.refusals.proofs.Answers.{given-unless}
use Rattle.std.specs.Prelude.{Result, Ok}
use Rattle.refusals.specs.declared.EncodeError.{EncodeError}
use Rattle.refusals.specs.declared.WriteBackError.{WriteBackError}
use Rattle.packer.specs.Nearness.{Bytes}
use Rattle.frame.specs.Frame.{short, frame_of, frame_size, declared, payload_in}
use Rattle.frame.specs.Wrapping.{wrap_after}
use Rattle.frame.proofs.Laws.{frame-laws}
use Rattle.frame.proofs.Places.{declared-is}
use Rattle.frame.proofs.Wrapped.{answer-given, answer-fits}
use Rattle.raw_command.specs.Commands.{Plain, plain_of, bytes_in, bytes_of}
use Rattle.raw_command.specs.declared.RawCommand.{RawCommand}
use Rattle.raw_command.proofs.Unique.{never-forward}
use Rattle.command.specs.Commands.{raw_of}
use Rattle.command.specs.declared.Command.{Command}
use Rattle.encode.specs.Payload.{hop_bytes, payload_of}
use Rattle.encode.specs.Encode.{EncodeIs, encoded}
use Rattle.encode.proofs.Exact as encode
use Rattle.command_reader.specs.Reader.{hop_size, CommandFrame, read_of, hop_part_of, ReadIs}
use Rattle.command_reader.specs.Writer.{is_hops, payload_back, write_answer, written_again, WriteIs}
use Rattle.command_reader.specs.Laws.{ReadAs, CommandFits, ReaderLaws}
use Rattle.command_reader.specs.declared.CommandRead.{CommandRead}
use Rattle.command_reader.proofs.Hops.{front-form, bytes-form, hops-form}
use Rattle.command_reader.proofs.Reading.{opened-at, read-given}
use Rattle.command_reader.proofs.Parts.{part-of-payload, payload-is, frame_is, frame-read}
use Rattle.command_reader.proofs.Writing.{by-wrap}

-- ---- what was written is read

reads-encoded : (command : Command) (hops buffer after : List ℕ) (count : ℕ) → CommandFits (raw_of command)
    → EncodeIs command hops buffer (Ok count) after → ReadAs after count (hop_bytes hops) (plain_of (raw_of command))
unfolding payload_of
reads-encoded command hops buffer after count fits w =
    let given = answer-given _ (length buffer) count (sym w.answer) in
    rw ((encode.encode-writes command hops buffer after count w).begins, given.1)
    (frame-read (hop_bytes hops) (plain_of (raw_of command)) _ (bytes-form hops) (never-forward (raw_of command)) fits given.0)

-- a success: the hop part is of the form, and the frame stands in front
record WritesFrame (hops : List ℕ) (command : RawCommand) (buffer after : List ℕ) (count : ℕ) : Type 0 where
  form : hop_size hops ≡ length hops
  small : length (payload_back hops command) ≤ 255
  counted : count ≡ frame_size short (length (payload_back hops command))
  begins : after ≡ frame_of short (payload_back hops command) ++ drop count buffer

writes-frame : (hops : List ℕ) (command : RawCommand) (buffer after : List ℕ) (count : ℕ) → WriteIs hops command buffer (Ok count) after
    → WritesFrame hops command buffer after count
unfolding write_answer
writes-frame hops command buffer after count w =
    let formed = given-unless (is_hops hops) invalid_frame _ count (sym w.answer) in
    let given = answer-given _ (length buffer) count formed.then in
    let size : length (frame_of short (payload_back hops command)) ≡ count = (frame-laws short).size (payload_back hops command) ∙ sym given.1 in
    record { form = eqb-true _ _ formed.holds; small = given.0; counted = given.1; begins = w.holds ∙ rw (formed.holds, formed.then, size) }

reads-written : (hops : List ℕ) (command : RawCommand) (buffer after : List ℕ) (count : ℕ) → CommandFits command
    → WriteIs hops command buffer (Ok count) after → ReadAs after count hops (plain_of command)
unfolding payload_back
reads-written hops command buffer after count fits w =
    let written = writes-frame hops command buffer after count w in
    rw (written.begins, written.counted)
    (frame-read hops (plain_of command) _ written.form (never-forward command) fits written.small)

-- ---- what was read is written

writes-read : (s : List ℕ) → Bytes s → (r : CommandRead) (frame : CommandFrame) → ReadIs s (Ok r) → read_of s ≡ ok frame
    → (buffer after : List ℕ) (w : Result ℕ WriteBackError) → frame.count ≤ length buffer → WriteIs (hop_part_of s) r.command buffer w after
    → (written_again w ≡ ok frame.count) × (after ≡ take frame.count s ++ drop frame.count buffer)
unfolding payload_back
writes-read s b r frame is read buffer after w room back =
    let from = read-given s frame read in
    let at = opened-at s frame.count from.opened in
    let same : plain_of r.command ≡ frame.plain = is.command ∙ rw read in
    let payload : hop_part_of s ++ bytes_of r.command ≡ payload_in short s = ap (λ (plain : Plain). hop_part_of s ++ bytes_in plain) same ∙ sym (payload-is s frame read b) in
    let size : length (hop_part_of s ++ bytes_of r.command) ≡ declared short s = ap length payload ∙ at.size in
    let form : hop_size (hop_part_of s) ≡ length (hop_part_of s) = rw (part-of-payload s frame read, from.hops) (front-form (payload_in short s)) in
    let answer : write_answer (hop_part_of s) r.command (length buffer) ≡ ok frame.count =
    by-wrap (hop_part_of s) r.command buffer form
    ∙ answer-fits _ (length buffer) (omega (arith, size, declared-is s, b 1)) (omega (arith, size, at.counted))
    ∙ ap ok (omega (arith, size, at.counted)) in
    let frame-there : frame_of short (hop_part_of s ++ bytes_of r.command) ≡ take frame.count s = rw same (sym (frame_is s frame read b)) in
    let long : length (frame_of short (hop_part_of s ++ bytes_of r.command)) ≡ frame.count = (frame-laws short).size _ ∙ omega (arith, size, at.counted) in
    (back.answer ∙ answer, back.holds ∙ rw (answer, long, frame-there))

-- ---- `encode` is the writer

encode-writes : (command : Command) (hops buffer after other : List ℕ) (r : Result ℕ EncodeError) (w : Result ℕ WriteBackError)
    → EncodeIs command hops buffer r after → WriteIs (hop_bytes hops) (raw_of command) buffer w other
    → (encoded r ≡ written_again w) × (after ≡ other)
unfolding payload_of payload_back wrap_after
encode-writes command hops buffer after other r w v back =
    let same = by-wrap (hop_bytes hops) (raw_of command) buffer (bytes-form hops) in
    (v.answer ∙ sym (back.answer ∙ same), v.holds ∙ sym (back.holds ∙ rw same))

-- ---- one reading, one frame

one-frame : (s t : List ℕ) → Bytes s → Bytes t → (count : ℕ) (hops : List ℕ) (plain : Plain) → ReadAs s count hops plain → ReadAs t count hops plain
    → take count s ≡ take count t
one-frame s t b d count hops plain v w =
    frame_is s _ v.answer b ∙ rw (v.part, ← w.part) (sym (frame_is t _ w.answer d))

pub reader-laws : ReaderLaws
reader-laws =
    record {
      reads-encoded = reads-encoded;
      writes-read = writes-read;
      reads-written = reads-written;
      encode-writes = encode-writes;
      one-frame = one-frame;
      hops-form = hops-form;
    }
