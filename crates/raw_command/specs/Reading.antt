-- What bytes are as a plain command: document 02, W2. "An empty, short or overlong payload and a flag byte above 1 are InvalidFrame. Refusals: .. 3 (an id not in
-- `CommandId`) or 2 by the first trouble".
use Rattle.std.specs.Prelude.{Bool, true, ◌&&◌, not, List, [], ◌∷◌, ℕ, Result, Ok, Err, ◌+◌, ◌/◌, ◌%◌, ◌^◌, eqb, leb, ltb, length, get_or, drop}
use Rattle.refusals.specs.Refusals.{Answer, ok, refused, decode_refusal, invalid_frame}
use Rattle.refusals.specs.Answers.{and_then, unless}
use Rattle.refusals.specs.declared.DecodeError.{DecodeError}
use Rattle.format.specs.Format.{id_of}
use Rattle.format.specs.Ids.{id_named}
use Rattle.format.specs.declared.CommandId.{CommandId}
use Rattle.format.specs.declared.CommandId.TheVariants.{ForwardCan}
use Rattle.packer.specs.Numbers.{be_at, signed_of}
use Rattle.raw_command.specs.Commands.{Form, bare, flag, flags, half, word, signed, Value, form_of, width_of, most_of, Plain, plain_of}
use Rattle.raw_command.specs.declared.RawCommand.{RawCommand}

-- the id of a hop: "34 and id by turns"
abbrev pub is_forward : CommandId → Bool
is_forward id = eqb (id_of id) (id_of ForwardCan)

-- the value of a number. A flag byte above 1 is refused before this is asked
abbrev pub value_of : (form : Form) → ℕ → Value form
value_of bare n = tt
value_of flag n = eqb n 1
value_of flags n = (eqb (n / 256) 1, eqb (n % 256) 1)
value_of half n = n
value_of word n = n
value_of signed n = signed_of (256 ^ 4) n

-- the command with an id and a number
abbrev pub numbered : CommandId → ℕ → Plain
numbered id n = record { id = id; value = value_of (form_of id) n }

-- no byte is above `most`
unfoldable pub at_most : ℕ → List ℕ → Bool
at_most most [] = true
at_most most (byte ∷ bytes) = leb byte most && at_most most bytes

-- what bytes that begin with an id are: "short or overlong", "a flag byte above 1"
unfoldable pub plain_with : CommandId → List ℕ → Answer Plain
plain_with id bytes =
    unless (eqb (length bytes) (1 + width_of (form_of id))) invalid_frame
    (unless (at_most (most_of (form_of id)) (drop 1 bytes)) invalid_frame
    (ok (numbered id (be_at bytes 1 (width_of (form_of id))))))

-- what bytes are: "the payload from the left", and a refusal "by the first trouble". A hop is no plain command
unfoldable pub plain_in : List ℕ → Answer Plain
plain_in bytes =
    unless (ltb 0 (length bytes)) invalid_frame
    (unless (not (eqb (get_or bytes 0 0) (id_of ForwardCan))) invalid_frame
    (and_then (id_named (get_or bytes 0 0)) (λ id. plain_with id bytes)))

-- what `unpack_command` says
abbrev pub unpacked_command : Result RawCommand DecodeError → Answer Plain
unpacked_command (Ok command) = ok (plain_of command)
unpacked_command (Err e) = refused (decode_refusal e)
