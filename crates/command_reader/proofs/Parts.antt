-- The bytes of a frame that was read: its payload is the hop part and the command's bytes.
use mathlib.Core.Bool.{false}
use mathlib.Core.Path.{◌≡◌, refl, sym, ap, ◌∙◌}
use mathlib.Core.List.{List, [], ◌∷◌, ◌++◌}
use Prim.Native.Nat.{ℕ, zero, suc, ◌+◌, ◌≤◌, ◌<◌}
use native.Mathlib.Omega.{arith}
use lib.ListN.{length, get_or, take, drop, take-append-drop}
use lib.Seq.{take_at, take-take, get_or-drop, drop-append_seam}
use Rattle.refusals.specs.Refusals.{ok}
use Rattle.format.specs.Format.{payload_max}
use Rattle.packer.specs.Nearness.{Bytes}
use Rattle.frame.specs.Frame.{short, frame_of, frame_size, declared, payload_in}
use Rattle.frame.proofs.Laws.{frame-laws}
use Rattle.frame.proofs.Opened.{open-laws}
use Rattle.raw_command.specs.Commands.{Plain, form_of, bytes_in}
use Rattle.raw_command.specs.Reading.{is_forward}
use Rattle.raw_command.specs.Laws.{Fits}
use Rattle.raw_command.proofs.Laws.{raw_laws}
use Rattle.command_reader.specs.Reader.{hop_size, CommandFrame, read_of, hop_part_of}
use Rattle.command_reader.specs.Laws.{ReadAs}
use Rattle.command_reader.proofs.Hops.{OfForm, hops-within, hops-in-front, other-front}
use Rattle.command_reader.proofs.Reading.{OpenedAt, opened-at, ReadFrom, read-given, given-read}

-- ---- the bytes of a part are bytes

taken-byte : (n : ℕ) (s : List ℕ) (at : ℕ) → Bytes s → get_or (take n s) at 0 < 256
taken-byte zero s at b = omega arith
taken-byte (suc n) [] at b = omega arith
taken-byte (suc n) (first ∷ s) zero b = b 0
taken-byte (suc n) (first ∷ s) (suc at) b = taken-byte n s at (λ k. b (suc k))

bytes_drop : (n : ℕ) (s : List ℕ) → Bytes s → Bytes (drop n s)
bytes_drop n s b at = rw (get_or-drop n s at 0) (b (n + at))

-- ---- a frame that was read

module _ (s : List ℕ) (frame : CommandFrame) (read : read_of s ≡ ok frame) where
  from : ReadFrom s frame
  from = read-given s frame read

  at : OpenedAt s frame.count
  at = opened-at s frame.count from.opened

  -- the hop part is the front of the payload
  pub part-of-payload : hop_part_of s ≡ take frame.hops (payload_in short s)
  unfolding hop_part_of payload_in
  part-of-payload =
      let inside : frame.hops ≤ declared short s = omega (arith, from.hops, hops-within (payload_in short s), at.size) in
      rw (read, take-take frame.hops (declared short s) (drop 2 s) inside)

  module _ (b : Bytes s) where
    -- the command's bytes stand behind it
    behind-hops : (drop (hop_size (payload_in short s)) (payload_in short s) ≡ bytes_in frame.plain)
        × (Fits (form_of frame.plain.id) frame.plain.value × (is_forward frame.plain.id ≡ false))
    unfolding payload_in
    behind-hops =
        raw_laws.read (drop (hop_size (payload_in short s)) (payload_in short s))
        (bytes_drop (hop_size (payload_in short s)) (payload_in short s) (λ k. taken-byte (declared short s) (drop 2 s) k (bytes_drop 2 s b)))
        frame.plain from.plain

    pub payload-is : payload_in short s ≡ hop_part_of s ++ bytes_in frame.plain
    payload-is =
        rw (part-of-payload, from.hops, ← behind-hops.0) (sym (take-append-drop (hop_size (payload_in short s)) (payload_in short s)))

    -- so the frame is the one that is written around these
    pub frame_is : take frame.count s ≡ frame_of short (hop_part_of s ++ bytes_in frame.plain)
    frame_is =
        let framed = (open-laws.opened s frame.count).0 from.opened in
        let begins = (frame-laws short).read s b framed.0 in
        let size : length (frame_of short (payload_in short s)) ≡ frame.count = (frame-laws short).size (payload_in short s) ∙ omega (arith, at.size, at.counted) in
        ap (take frame.count) begins ∙ take_at (frame_of short (payload_in short s)) _ frame.count size ∙ ap (frame_of short) payload-is

-- ---- a frame that was written

module _ (part : List ℕ) (plain : Plain) (rest : List ℕ) (form : OfForm part) (plainly : is_forward plain.id ≡ false)
    (fits : Fits (form_of plain.id) plain.value) (small : length (part ++ bytes_in plain) ≤ payload_max) where
  abbrev payload : List ℕ
  payload = part ++ bytes_in plain

  abbrev slice : List ℕ
  slice = frame_of short payload ++ rest

  pub frame-read : ReadAs slice (frame_size short (length payload)) part plain
  frame-read =
      let written = (frame-laws short).written payload rest (omega arith) in
      let carries = written.carries in
      let front : hop_size payload ≡ length part = hops-in-front part (bytes_in plain) form (other-front _ _ plainly) in
      let frame : CommandFrame = record { count = frame_size short (length payload); hops = length part; plain = plain } in
      let answer : read_of slice ≡ ok frame = given-read slice frame (record {
        opened = (open-laws.opened slice frame.count).1 (written.framed, ap (frame_size short) (sym written.says));
        hops = rw (carries) (sym front);
        plain = rw (carries, front, drop-append_seam part (bytes_in plain)) (raw_laws.written plain plainly fits);
      }) in
      record { answer = answer; part = part-of-payload slice frame answer ∙ rw carries (take_at part (bytes_in plain) (length part) refl) }
