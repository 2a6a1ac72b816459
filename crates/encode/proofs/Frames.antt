-- A hop and a payload as runs of writes, and the answer of the whole.
use mathlib.Core.Path.{◌≡◌, sym, ap, ◌∙◌}
use mathlib.Core.List.{List, ◌++◌}
use Prim.Native.Nat.{ℕ, ◌≤◌, ◌<◌}
use lib.ListN.{length, drop}
use Rattle.refusals.specs.Refusals.{ok}
use Rattle.std.specs.Prelude.{Result, Err}
use Rattle.refusals.specs.declared.EncodeError.{EncodeError}
use Rattle.refusals.specs.declared.EncodeError.TheVariants.{BufferTooSmall, PayloadTooLong}
use Rattle.command.specs.declared.Command.{Command}
use Rattle.format.specs.Format.{payload_max}
use Rattle.frame.specs.Frame.{short, frame_of, frame_size}
use Rattle.frame.specs.Wrapping.{wrap_answer}
use Rattle.frame.proofs.Wrapped.{answer-too-long, answer-too-small, answer-fits, after-answer}
use Rattle.encode.specs.Payload.{payload_of}
use Rattle.encode.specs.Encode.{encoded, EncodeIs}

-- ---- the answer of the whole
module _ (command : Command) (hops l : List ℕ) where
  abbrev payload : List ℕ
  payload = payload_of command hops

  pub too_long : payload_max < length payload → EncodeIs command hops l (Err PayloadTooLong) l
  too_long h =
      let a : wrap_answer (length payload) (length l) ≡ _ = answer-too-long _ _ h in
      record { answer = sym a; holds = sym (after-answer payload l _ a) }

  pub too_small : length payload ≤ payload_max → length l < frame_size short (length payload) → EncodeIs command hops l (Err BufferTooSmall) l
  too_small h k =
      let a : wrap_answer (length payload) (length l) ≡ _ = answer-too-small _ _ h k in
      record { answer = sym a; holds = sym (after-answer payload l _ a) }

  pub framed : {after : List ℕ} {a : Result ℕ EncodeError} (count : ℕ) → length payload ≤ payload_max → frame_size short (length payload) ≤ length l → count ≡ frame_size short (length payload)
      → encoded a ≡ ok count → after ≡ frame_of short payload ++ drop (length (frame_of short payload)) l → EncodeIs command hops l a after
  framed count h k size answers holds =
      let a : wrap_answer (length payload) (length l) ≡ _ = answer-fits _ _ h k in
      record { answer = answers ∙ ap ok size ∙ sym a; holds = holds ∙ sym (after-answer payload l _ a) }
