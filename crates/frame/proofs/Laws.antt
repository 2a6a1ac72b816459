-- Writing a frame and reading its parts undo each other, for every style.
use mathlib.Core.Path.{◌≡◌, refl, sym}
use mathlib.Core.List.{List, [], ◌∷◌, ◌++◌}
use Prim.Native.Nat.{ℕ, suc, ◌+◌, ◌^◌, ◌<◌}
use native.Mathlib.Omega.{arith}
use lib.ListN.{length, get_or, drop, length-append}
use Rattle.format.specs.Format.{frame_end}
use Rattle.checksum.specs.Xmodem.{checksum_of}
use Rattle.packer.specs.Numbers.{big_endian}
use Rattle.packer.specs.Nearness.{Bytes}
use Rattle.packer.specs.Standing.{Stands}
use Rattle.packer.proofs.Writes.{digits-length}
use Rattle.packer.proofs.Standing.{one, the_one, joined, first, second, in-front, part, taken}
use Rattle.packer.proofs.Digits.{number-here, number-back}
use Rattle.frame.specs.Frame.{Style, length_bytes, sum_bytes, frame_of, payload_from, frame_size, declared, payload_in, carried, end_byte, Framed}
use Rattle.frame.specs.Laws.{WrittenParts, FrameLaws, ShortNumbers}
use Rattle.checksum.proofs.Remainder.{sum_below}

module _ (style : Style) where
  -- ---- what is written is read

  module _ (payload rest : List ℕ) (small : length payload < 256 ^ style.width) where
    abbrev slice : List ℕ
    slice = frame_of style payload ++ rest

    abbrev ending : List ℕ
    ending = sum_bytes payload ++ (frame_end ∷ [])

    -- what stands behind the start byte, then behind the length, then behind the payload
    behind-start : Stands (length_bytes style payload ++ (payload ++ ending)) slice 1 (length (frame_of style payload))
    unfolding frame_of
    behind-start = second (style.start ∷ []) (length_bytes style payload ++ (payload ++ ending)) (in-front (frame_of style payload) rest)

    behind-length : Stands (payload ++ ending) slice (payload_from style) (length (frame_of style payload))
    behind-length = rw digits-length at (second (length_bytes style payload) (payload ++ ending) behind-start)

    behind-payload : Stands ending slice (payload_from style + length payload) (length (frame_of style payload))
    behind-payload = second payload ending behind-length

    length-there : declared style slice ≡ length payload
    unfolding declared
    length-there = number-back style.width (length payload) small (first (length_bytes style payload) (payload ++ ending) behind-start)

    payload-there : payload_in style slice ≡ payload
    unfolding payload_in
    payload-there = rw length-there (sym (taken (first payload ending behind-length)))

    framed : Framed style slice
    unfolding frame_of carried end_byte
    framed =
        let w = behind-payload in
        let two = digits-length 2 (checksum_of payload) in
        record {
          whole = omega (arith, length-there, length-append (sum_bytes payload) (frame_end ∷ []));
          start = refl;
          sum = rw (length-there, payload-there) (number-back 2 (checksum_of payload) (sum_below payload) (first (sum_bytes payload) (frame_end ∷ []) behind-payload));
          end = rw length-there (the_one (rw two at (second (sum_bytes payload) (frame_end ∷ []) behind-payload)));
        }

    written : WrittenParts style payload rest
    written = record { framed = framed; says = length-there; carries = payload-there }

  -- ---- what is read is written

  frame-of
      : (payload : List ℕ) (start n sum end : ℕ) → start ≡ style.start → n ≡ length payload → sum ≡ checksum_of payload → end ≡ frame_end
      → start ∷ (big_endian style.width n ++ (payload ++ (big_endian 2 sum ++ (end ∷ [])))) ≡ frame_of style payload
  unfolding frame_of
  frame-of payload start n sum end a b c d = rw (a, b, c, d)

  read : (s : List ℕ) → Bytes s → Framed style s → s ≡ frame_of style (payload_in style s) ++ drop (frame_size style (declared style s)) s
  unfolding declared payload_in carried end_byte
  read s b f =
      let whole = f.whole in
      let at = payload_from style + declared style s in
      let end : frame_size style (declared style s) ≡ suc (at + 2) = omega arith in
      let payload = part s (payload_from style) (declared style s) (omega arith) in
      let behind = joined payload (joined (number-here s at 2 b (omega arith)) (one s (at + 2) (omega arith))) in
      let all = joined (one s 0 (omega arith)) (joined (number-here s 1 style.width b (omega arith)) behind) in
      rw (← frame-of (payload_in style s) (get_or s 0 0) (declared style s) (carried style s) (end_byte style s) f.start (omega arith) f.sum f.end, end) all.here

  size : (payload : List ℕ) → length (frame_of style payload) ≡ frame_size style (length payload)
  unfolding frame_of
  size payload = simp (length-append, digits-length) (omega arith)

  pub frame-laws : FrameLaws style
  frame-laws = record { written = written; read = read; size = size }

pub short-numbers : ShortNumbers
short-numbers = record { at = refl; extra = λ n. refl; most = refl }
