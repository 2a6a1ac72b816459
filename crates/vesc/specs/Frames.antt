-- The frames that document 01, "Frames on both sides of each rule", marks P: one table, and what each row claims.
use Rattle.std.specs.Prelude.{◌≡◌, List, [], ◌∷◌, ℕ, false, pos, negsuc, get_or, drop, length, replicate}
use Rattle.std.specs.Float.{fin, binary32}
use Rattle.std.specs.Float.Ieee.{of_int}
use Rattle.refusals.specs.Refusals.{Answer, ok, refused, incomplete_data, invalid_frame, unknown_packet, checksum_mismatch, buffer_too_small}
use Rattle.floats.specs.Numbers.{over_scale}
use Rattle.command.specs.Commands.{bytes_of}
use Rattle.encode.specs.Payload.{payload_of}
use Rattle.frame.specs.Wrapping.{wrap_answer, wrap_after}
use Rattle.command.specs.declared.Command.{Command}
use Rattle.command.specs.declared.Command.TheVariants.{GetValues, Alive, SetRpm, SetCurrent}
use Rattle.format.specs.Format.{payload_at}
use Rattle.layout.specs.Layout.{raws}
use Rattle.layout.specs.Replies.{selective}
use Rattle.telemetry.specs.Telemetry.{values_of}
use Rattle.telemetry.specs.declared.Values.{Values}
use Rattle.reply.specs.Reply.{kind_number}
use Rattle.reply.specs.Decode.{decode_of}

pub data Row : Type 0 where
  -- a command without hops, the room for it, the answer, and what the room then holds (zeros before)
  encodes : Command → ℕ → Answer ℕ → List ℕ → Row
  -- a command's payload
  carries : Command → List ℕ → Row
  -- a slice, what `decode` answers, and the id of the reply's kind
  decodes : List ℕ → Answer ℕ → ℕ → Row
  -- of the selective frame of a slice: the raw numbers of rpm and voltage_in, and what they are over 1 and 10
  reads : List ℕ → ℕ → ℕ → Row

-- the mask of a selective frame, and the numbers of its fields
abbrev pub selective_raws : List ℕ → ℕ × List ℕ
selective_raws slice = (raws selective (drop payload_at slice) 1).0

abbrev pub selective_values : List ℕ → Values
selective_values slice = values_of (selective_raws slice).0 (selective_raws slice).1

-- what a row claims
abbrev pub Claimed : Row → Type 0
Claimed (encodes command room answer after) =
    (wrap_answer (length (payload_of command [])) room ≡ answer) × (wrap_after (payload_of command []) (replicate room 0) ≡ after)
Claimed (carries command payload) = bytes_of command ≡ payload
Claimed (decodes slice answer id) = ((decode_of slice).answer ≡ answer) × (kind_number (decode_of slice).reply.kind ≡ id)
Claimed (reads slice rpm voltage) =
    (get_or (selective_raws slice).1 7 0 ≡ rpm)
    × (get_or (selective_raws slice).1 8 0 ≡ voltage)
    × ((selective_values slice).rpm ≡ over_scale (pos rpm) (of_int binary32 (pos 1)))
    × ((selective_values slice).voltage_in ≡ over_scale (pos voltage) (of_int binary32 (pos 10)))

abbrev pub All : List Row → Type 0
All [] = Unit {0}
All (row ∷ rows) = Claimed row × All rows

-- the frame of the comment on the Rust's `decode`: it declares 7 where 11 is right
abbrev pub comment_frame : List ℕ
comment_frame = 2 ∷ 7 ∷ 50 ∷ 0 ∷ 0 ∷ 1 ∷ 128 ∷ 0 ∷ 0 ∷ 4 ∷ 210 ∷ 1 ∷ 176 ∷ 254 ∷ 22 ∷ 3 ∷ []

abbrev pub p_frames : List Row
p_frames =
    encodes GetValues 6 (ok 6) (2 ∷ 1 ∷ 4 ∷ 64 ∷ 132 ∷ 3 ∷ [])
    ∷ encodes GetValues 5 (refused buffer_too_small) (0 ∷ 0 ∷ 0 ∷ 0 ∷ 0 ∷ [])
    ∷ encodes Alive 6 (ok 6) (2 ∷ 1 ∷ 30 ∷ 243 ∷ 255 ∷ 3 ∷ [])
    ∷ carries (SetRpm (negsuc 1499)) (8 ∷ 255 ∷ 255 ∷ 250 ∷ 36 ∷ [])
    -- 1.5 is 3 * 2 ^ -1
    ∷ carries (SetCurrent (fin false 3 (negsuc 0))) (6 ∷ 0 ∷ 0 ∷ 5 ∷ 220 ∷ [])
    ∷ decodes (2 ∷ 1 ∷ 129 ∷ 129 ∷ 169 ∷ 3 ∷ 9 ∷ 9 ∷ []) (ok 6) 129
    ∷ decodes (2 ∷ 1 ∷ 129 ∷ 129 ∷ 169 ∷ 4 ∷ 9 ∷ 9 ∷ []) (refused invalid_frame) 0
    ∷ decodes (2 ∷ 1 ∷ 129 ∷ 129 ∷ 168 ∷ 3 ∷ 9 ∷ 9 ∷ []) (refused (checksum_mismatch 33192 33193)) 0
    ∷ decodes [] (refused incomplete_data) 0
    ∷ decodes (2 ∷ []) (refused incomplete_data) 0
    ∷ decodes (2 ∷ 0 ∷ []) (refused incomplete_data) 0
    ∷ decodes (2 ∷ 1 ∷ 129 ∷ []) (refused incomplete_data) 0
    ∷ decodes (3 ∷ []) (refused invalid_frame) 0
    ∷ decodes (2 ∷ 2 ∷ 129 ∷ []) (refused invalid_frame) 0
    ∷ decodes (2 ∷ 9 ∷ 5 ∷ []) (refused (unknown_packet 5)) 0
    ∷ decodes comment_frame (refused invalid_frame) 0
    ∷ reads comment_frame 1234 432
    ∷ []
