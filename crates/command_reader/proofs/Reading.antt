-- What a command frame is read as: a law for each way out of `read_payload` and `read_command`, and what a reading tells of the slice.
use mathlib.Core.Path.{◌≡◌, refl, sym, ap, ◌∙◌}
use mathlib.Core.List.{List}
use Prim.Native.Nat.{ℕ, ◌+◌, ◌-◌, ◌≤◌}
use native.Mathlib.Omega.{arith}
use lib.ListN.{length, take, drop, length-drop}
use lib.Seq.{length-take-le}
use Rattle.refusals.specs.Refusals.{Answer, ok, refused, decode_refusal}
use Rattle.std.specs.Prelude.{Result, Ok, Err}
use Rattle.refusals.specs.declared.DecodeError.{DecodeError}
use Rattle.refusals.proofs.Answers.{given-same, given-then}
use Rattle.packer.proofs.Places.{lent-whole}
use Rattle.frame.specs.Frame.{short, declared, payload_in}
use Rattle.frame.specs.Opening.{open_of}
use Rattle.frame.proofs.Opened.{open-laws}
use Rattle.raw_command.specs.Commands.{plain_of}
use Rattle.raw_command.specs.Reading.{plain_in}
use Rattle.raw_command.specs.declared.RawCommand.{RawCommand}
use Rattle.command_reader.specs.Reader.{hop_size, CommandFrame, content_of, read_of, count_of, command_or, told, SaysRead, ReadIs, part_place, hop_part_of}
use Rattle.command_reader.specs.declared.CommandRead.{CommandRead}
use Rattle.command_reader.proofs.Hops.{hops-within}

-- ---- the payload

module _ (payload : List ℕ) (count hops : ℕ) (size : hops ≡ hop_size payload) where
  behind : plain_in (take (length payload - hops) (drop hops payload)) ≡ plain_in (drop (hop_size payload) payload)
  behind = rw (← size, lent-whole hops payload)

  pub content-read : (command : RawCommand) → ok (plain_of command) ≡ plain_in (take (length payload - hops) (drop hops payload))
      → SaysRead (content_of payload count) (Ok (record { count = count; command = command; hops = hops }))
  unfolding content_of
  content-read command e = rw (← behind, ← e) (record { answer = refl; hops = size; command = refl })

  pub content-refused : (error : DecodeError) → refused (decode_refusal error) ≡ plain_in (take (length payload - hops) (drop hops payload))
      → SaysRead (content_of payload count) (Err error)
  unfolding content_of
  content-refused error e = rw (← behind, ← e) (record { answer = refl; hops = refl; command = refl })

-- ---- the frame

module _ (s : List ℕ) where
  pub record OpenedAt (count : ℕ) : Type 0 where
    pub counted : count ≡ declared short s + 5
    pub within : count ≤ length s
    pub payload : take (count - 3 - 2) (drop 2 s) ≡ payload_in short s
    pub size : length (payload_in short s) ≡ declared short s

  pub opened-at : (count : ℕ) → open_of s ≡ ok count → OpenedAt count
  unfolding payload_in
  opened-at count e =
      let framed = (open-laws.opened s count).0 e in
      let counted : count ≡ declared short s + 5 = omega (arith, framed.1) in
      let inside : count - 3 - 2 ≡ declared short s = omega arith in
      let whole = framed.0.whole in
      record {
        counted = counted;
        within = omega arith;
        payload = rw inside;
        size = length-take-le (declared short s) (drop 2 s) (simp length-drop (omega arith));
      }

  pub read_opened : (count : ℕ) {r : Result CommandRead DecodeError} → open_of s ≡ ok count → SaysRead (content_of (take (count - 3 - 2) (drop 2 s)) count) r → ReadIs s r
  unfolding read_of
  read_opened count e says = rw (e, ← (opened-at count e).payload) says

  pub read-refused : (error : DecodeError) → open_of s ≡ refused (decode_refusal error) → ReadIs s (Err error)
  unfolding read_of
  read-refused error e = rw e (record { answer = refl; hops = refl; command = refl })

  -- ---- what a reading tells

  pub record ReadFrom (frame : CommandFrame) : Type 0 where
    pub opened : open_of s ≡ ok frame.count
    pub hops : frame.hops ≡ hop_size (payload_in short s)
    pub plain : plain_in (drop (hop_size (payload_in short s)) (payload_in short s)) ≡ ok frame.plain

  pub read-given : (frame : CommandFrame) → read_of s ≡ ok frame → ReadFrom frame
  unfolding read_of content_of
  read-given frame e =
      let first = given-then (open_of s) _ frame e in
      let second = given-then (plain_in (drop (hop_size (payload_in short s)) (payload_in short s))) _ frame first.second in
      let is = given-same second.second in
      record {
        opened = first.first ∙ ap (λ (f : CommandFrame). ok f.count) is;
        hops = sym (ap (λ (f : CommandFrame). f.hops) is);
        plain = second.first ∙ ap (λ (f : CommandFrame). ok f.plain) is;
      }

  pub given-read : (frame : CommandFrame) → ReadFrom frame → read_of s ≡ ok frame
  unfolding read_of content_of
  given-read frame from = rw (from.opened, from.plain, ← from.hops)

  -- the hop part lies in the slice
  pub part-inside : part_place (read_of s) + (command_or (read_of s)).hops ≤ length s
  part-inside = go (read_of s) refl
    where
      go : (a : Answer CommandFrame) → read_of s ≡ a → part_place a + (command_or a).hops ≤ length s
      go (ok frame) e =
          let from = read-given frame e in
          let at = opened-at frame.count from.opened in
          omega (arith, from.hops, hops-within (payload_in short s), at.size, at.counted, at.within)
      go (refused why) e = omega arith

  -- and is the part that is lent
  pub part-taken : (start hops : ℕ) → start ≡ part_place (read_of s) → hops ≡ (command_or (read_of s)).hops → take (start + hops - start) (drop start s) ≡ hop_part_of s
  unfolding hop_part_of
  part-taken start hops at size = let all : start + hops - start ≡ hops = omega arith in rw (all, at, size)

-- the place of the part, by the count or the refusal
place_of : (a : Answer CommandFrame) → part_place (count_of a) ≡ part_place a
place_of (ok frame) = refl
place_of (refused why) = refl

-- and as a result tells it
pub told-place : {a : Answer CommandFrame} {r : Result CommandRead DecodeError} → SaysRead a r → part_place (told r).answer ≡ part_place a
told-place {a} says = ap (λ (b : Answer ℕ). part_place b) says.answer ∙ place_of a
