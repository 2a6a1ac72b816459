-- What writing a command back answers and leaves: a law for each way out of `write_command`.
use mathlib.Core.Path.{◌≡◌, refl, sym, ap, ◌∙◌}
use mathlib.Core.List.{List, ◌++◌}
use Prim.Native.Nat.{ℕ, ◌+◌, ◌≤◌, ◌<◌}
use native.Mathlib.Omega.{arith}
use lib.ListN.{length, drop, length-append}
use borrow.Author.Tests.{eq-eqb, ne_eqb}
use Rattle.refusals.specs.Refusals.{Answer, ok, refused, invalid_frame, payload_too_long, buffer_too_small}
use Rattle.std.specs.Prelude.{Result, Ok, Err}
use Rattle.refusals.proofs.Different.{none}
use Rattle.refusals.specs.declared.EncodeError.{EncodeError}
use Rattle.refusals.specs.declared.WriteBackError.{WriteBackError}
use Rattle.refusals.specs.declared.WriteBackError.TheVariants as e
use Rattle.format.specs.Format.{payload_at, payload_max}
use Rattle.packer.specs.Packing.{PackIs, packed}
use Rattle.packer.proofs.Writes.{digits-length}
use Rattle.frame.specs.Frame.{short, frame_of, frame_size}
use Rattle.frame.specs.Wrapping.{wrap_answer, held_after, WrapIs}
use Rattle.frame.proofs.Wrapped.{answer-too-long, answer-too-small, answer-fits, payload-wrapped}
use Rattle.raw_command.specs.Commands.{plain_of, size_in, bytes_of, PartsIs, parts_bytes}
use Rattle.raw_command.specs.declared.Parts.{Parts}
use Rattle.raw_command.specs.declared.RawCommand.{RawCommand}
use Rattle.raw_command.proofs.Packing.{parts-bytes, ends-behind, then}
use Rattle.raw_command.proofs.Sizes.{sizes}
use Rattle.command_reader.specs.Reader.{hop_size}
use Rattle.command_reader.specs.Writer.{payload_back, write_answer, written_again, WriteIs}

module _ (hops : List ℕ) (command : RawCommand) where
  pub payload-size : length (payload_back hops command) ≡ length hops + size_in (plain_of command)
  unfolding payload_back
  payload-size = length-append hops (bytes_of command) ∙ ap (λ (n : ℕ). length hops + n) (sizes (plain_of command)).0

  module _ (l : List ℕ) where
    -- an answer, and what it leaves
    write-is : {r : Result ℕ WriteBackError} {after : List ℕ} (a : Answer ℕ) → write_answer hops command (length l) ≡ a → written_again r ≡ a
        → after ≡ held_after a (frame_of short (payload_back hops command)) l → WriteIs hops command l r after
    write-is a is says holds = record { answer = says ∙ sym is; holds = rw is holds }

    pub no-hops : (hop_size hops ≡ length hops → ⊥) → WriteIs hops command l (Err e.InvalidFrame) l
    unfolding write_answer
    no-hops differs = write-is (refused invalid_frame) (rw (ne_eqb (hop_size hops) (length hops) differs)) refl refl

    module _ (form : hop_size hops ≡ length hops) where
      pub by-wrap : write_answer hops command (length l) ≡ wrap_answer (length (payload_back hops command)) (length l)
      unfolding write_answer
      by-wrap = rw (eq-eqb (hop_size hops) (length hops) form)

      pub too_long : payload_max < length hops + size_in (plain_of command) → WriteIs hops command l (Err e.PayloadTooLong) l
      too_long over = write-is (refused payload_too_long) (by-wrap ∙ answer-too-long _ (length l) (omega (arith, payload-size))) refl refl

      pub too_small : length hops + size_in (plain_of command) ≤ payload_max → length l < frame_size short (length hops + size_in (plain_of command))
          → WriteIs hops command l (Err e.BufferTooSmall) l
      too_small under less =
          write-is (refused buffer_too_small) (by-wrap ∙ answer-too-small _ (length l) (omega (arith, payload-size)) (omega (arith, payload-size))) refl refl

      -- the hop part, the command behind it, and the frame around both
      module _ {m : List ℕ} {end : ℕ} {parts : Parts} (is : PartsIs command parts)
          (under : length hops + size_in (plain_of command) ≤ payload_max) (room : frame_size short (length hops + size_in (plain_of command)) ≤ length l)
          (first : PackIs hops l payload_at (Ok end) m) where
        parts-size : length (parts_bytes parts) ≡ size_in (plain_of command)
        parts-size = omega (arith, digits-length parts.width parts.number, is.width)

        pub parts-room : length m ≡ length l → end + length (parts_bytes parts) ≤ length m
        parts-room long = let size = parts-size in let behind = ends-behind (omega arith) first in omega arith

        module _ {o after : List ℕ} {n : ℕ} {q r : Result ℕ EncodeError} (second : PackIs (parts_bytes parts) m end q o) (count : n ≡ length hops + size_in (plain_of command))
            (v : WrapIs n o r after) where
          payload-there : PackIs (payload_back hops command) l payload_at q o
          unfolding payload_back
          payload-there = rw (← parts-bytes command parts is) (then (omega (arith, parts-size, length-append hops (parts_bytes parts))) first second)

          pub framed : (packed r ≡ ok (frame_size short (length (payload_back hops command))))
              × (after ≡ frame_of short (payload_back hops command) ++ drop (length (frame_of short (payload_back hops command))) l)
          framed =
              let size = payload-size in
              let long : n ≡ length (payload_back hops command) = omega arith in
              payload-wrapped (payload_back hops command) (omega arith) (omega arith) payload-there long v

        module _ {o after : List ℕ} {n : ℕ} {q : Result ℕ EncodeError} (second : PackIs (parts_bytes parts) m end q o) (count : n ≡ length hops + size_in (plain_of command)) where
          pub wrapped : {written : ℕ} → WrapIs n o (Ok written) after → WriteIs hops command l (Ok written) after
          wrapped v =
              let size = payload-size in
              let done = framed second count v in
              write-is (ok (frame_size short (length (payload_back hops command))))
              (by-wrap ∙ answer-fits (length (payload_back hops command)) (length l) (omega arith) (omega arith)) done.0 done.1

          -- there is room for the frame
          pub never-unwrapped : {A : Type 0} {error : EncodeError} → WrapIs n o (Err error) after → A
          never-unwrapped v = let done = (framed second count v).0 in none (cc)
