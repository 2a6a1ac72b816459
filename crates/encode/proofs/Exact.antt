-- What `encode` promises, `EncodeIs`, leaves one answer and one buffer; a refusal leaves the buffer alone, and a success leaves a frame in it.
-- All for every command, every list of hops and every buffer.
use mathlib.Core.Path.{◌≡◌, sym, ◌∙◌}
use mathlib.Core.List.{List, ◌++◌}
use Prim.Native.Nat.{ℕ}
use native.Mathlib.Omega.{arith}
use lib.ListN.{length, drop}
use Rattle.std.specs.Prelude.{Err}
use Rattle.refusals.specs.Refusals.{encode_refusal}
use Rattle.refusals.specs.declared.EncodeError.{EncodeError}
use Rattle.refusals.specs.OneAnswer.{ToldApart}
use Rattle.refusals.proofs.Unique.{answer-back, encode_back, encode-back}
use Rattle.frame.specs.Frame.{short, frame_of}
use Rattle.frame.proofs.Laws.{frame-laws}
use Rattle.frame.specs.Wrapping.{wrap_after}
use Rattle.encode.specs.Encode.{encoded, EncodeIs}
use Rattle.encode.specs.Payload.{payload_of}
use Rattle.encode.specs.Written.{EncodeWrites}
use Rattle.encode.specs.OneAnswer.{OneAnswer}
use Rattle.command.specs.declared.Command.{Command}
use Rattle.frame.proofs.Wrapped.{answer-given, after-answer}

-- "nothing; buffer unchanged": a refused encode writes nothing, whatever was asked for
pub refused-writes-nothing : (command : Command) (hops l after : List ℕ) (e : EncodeError) → EncodeIs command hops l (Err e) after → after ≡ l
unfolding wrap_after
refused-writes-nothing command hops l after e w = w.holds ∙ rw (← w.answer)

-- and a successful one a frame around the payload
pub encode-writes : EncodeWrites
encode-writes command hops buffer after count w =
    let payload = payload_of command hops in
    let fits = answer-given (length payload) (length buffer) count (sym w.answer) in
    let size : length (frame_of short payload) ≡ count = (frame-laws short).size payload ∙ sym fits.1 in
    let held : after ≡ frame_of short payload ++ drop count buffer = w.holds ∙ after-answer payload buffer _ (sym w.answer) ∙ rw size in
    let parts = (frame-laws short).written payload (drop count buffer) (omega arith) in
    record { begins = held; framed = rw held parts.framed; payload = rw held parts.carries }

encoded-unique : ToldApart encoded
encoded-unique = answer-back encode_refusal encode_back encode-back

pub one_answer : OneAnswer
one_answer = record { encode = λ command hops buffer r s after other v w. (encoded-unique r s (v.answer ∙ sym w.answer), v.holds ∙ sym w.holds) }
