-- What writing a reply answers and leaves: a law for each way out of `write_reply`.
use mathlib.Core.Path.{◌≡◌, refl, sym, ap, ◌∙◌}
use mathlib.Core.Bool.{true, false}
use mathlib.Core.List.{List}
use Prim.Native.Nat.{ℕ, ◌+◌, ◌≤◌, ◌<◌}
use native.Mathlib.Omega.{arith}
use lib.ListN.{length}
use borrow.Author.Tests.{lt-ltb, le-ltb}
use Rattle.refusals.specs.Refusals.{Answer, ok, refused, unknown_mask_bits, bad_name, buffer_too_small}
use Rattle.refusals.specs.declared.ReplyWriteError.TheVariants as e
use Rattle.format.specs.Format.{payload_at, payload_max, frame_extra}
use Rattle.packer.specs.Packing.{PackIs, packed}
use Rattle.packer.proofs.Writes.{fits-answer}
use Rattle.refusals.proofs.Answers.{given-same}
use Rattle.refusals.proofs.Different.{none}
use Rattle.refusals.specs.declared.EncodeError.{EncodeError}
use Rattle.std.specs.Prelude.{Result, Ok, Err, MatchResult}
use Rattle.frame.specs.Frame.{short, frame_of, frame_size}
use Rattle.frame.specs.Room.{room_answer}
use Rattle.frame.specs.Wrapping.{held_after, WrapIs}
use Rattle.frame.proofs.Wrapped.{payload-wrapped}
use Rattle.raw_reply.specs.declared.RawReply.{RawReply}
use Rattle.reply_writer.specs.Writer.{known_mask, good_names, payload_of, write_answer, written_reply, WriteIs}
use Rattle.refusals.specs.declared.ReplyWriteError.{ReplyWriteError}

-- a writer's place, with its refusal turned into another
given-ok : {given : Result ℕ ReplyWriteError} {place : ℕ} (Q : EncodeError → Type 0) (result : Result ℕ EncodeError) → packed result ≡ ok place
    → MatchResult result (λ x. given ≡ Ok x) Q → given ≡ Ok place
given-ok Q (Ok x) is mapped = mapped ∙ ap Ok (given-same is)
given-ok Q (Err e) is mapped = none (cc)

module _ (r : RawReply) (l : List ℕ) where
  -- an answer, and what it leaves
  write-is : {w : Result ℕ ReplyWriteError} {after : List ℕ} (a : Answer ℕ) → write_answer r (length l) ≡ a → written_reply w ≡ a
      → after ≡ held_after a (frame_of short (payload_of r)) l → WriteIs r l w after
  write-is a is says holds = record { answer = says ∙ sym is; holds = rw is holds }

  pub unknown-bits : known_mask r ≡ false → WriteIs r l (Err e.UnknownMaskBits) l
  unfolding write_answer
  unknown-bits off = write-is (refused unknown_mask_bits) (rw off) refl refl

  module _ (known : known_mask r ≡ true) where
    pub bad-name : good_names r ≡ false → WriteIs r l (Err e.BadName) l
    unfolding write_answer
    bad-name off = write-is (refused bad_name) (rw (known, off)) refl refl

    module _ (good : good_names r ≡ true) where
      by-room : write_answer r (length l) ≡ room_answer (length (payload_of r)) (length l)
      unfolding write_answer
      by-room = rw (known, good)

      module _ {n : ℕ} (size : n ≡ length (payload_of r)) where
        pub too_small : length l < n + frame_extra → WriteIs r l (Err e.BufferTooSmall) l
        too_small less =
            write-is (refused buffer_too_small) (by-room ∙ rw (lt-ltb (length l) (frame_size short (length (payload_of r))) (omega arith))) refl refl

        module _ (room : n + frame_extra ≤ length l) {m : List ℕ} {p : Result ℕ EncodeError} (w : PackIs (payload_of r) l payload_at p m) where
          pub not-full : (Q : EncodeError → Type 0) {given : Result ℕ ReplyWriteError} {e : ReplyWriteError} {A : Type 0}
              → MatchResult p (λ x. given ≡ Ok x) Q → given ≡ Err e → A
          not-full Q mapped is =
              let same = given-ok Q p (w.answer ∙ fits-answer (payload_of r) l payload_at (omega arith)) mapped in
              none (cc)

          pub wrapped : (Q : EncodeError → Type 0) {after : List ℕ} {q : Result ℕ EncodeError} {given : Result ℕ ReplyWriteError} → n ≤ payload_max
              → WrapIs n m q after → MatchResult q (λ x. given ≡ Ok x) Q → WriteIs r l given after
          wrapped Q {q = q} small v mapped =
              let payload = payload_of r in
              let done = payload-wrapped payload (omega arith) (omega arith) w size v in
              write-is (ok (frame_size short (length payload)))
              (by-room ∙ rw (le-ltb (length l) (frame_size short (length payload)) (omega arith)))
              (ap written_reply (given-ok Q q done.0 mapped))
              done.1
