-- Document 01, "Reply fields": "Names hold 39 bytes in FwVersion, 47 in FwInfo, the NUL among them, zeros after it." Their room, 39 or 47, is an
-- argument of each definition.
use Rattle.std.specs.Prelude.{ℕ, zero, suc, ◌+◌, ◌-◌, Bool, true, ◌&&◌, cond, List, [], ◌∷◌, ◌++◌, take, drop, replicate, eqb, Option, Some, None, Result, Ok, Err}
use Rattle.refusals.specs.Refusals.{Answer, ok, refused, decode_refusal, incomplete_data, invalid_frame, bad_name}
use Rattle.refusals.specs.Answers.{unless}
use Rattle.refusals.specs.declared.DecodeError.{DecodeError}

-- the place after the first NUL among the next `room` bytes; the bytes left are given, and the place of the first of them.
-- "2 for a name without NUL": no room left; "A read past the end of the slice is 1": no byte left; a NUL; any other byte
unfoldable pub nul_within : ℕ → List ℕ → ℕ → Answer ℕ
nul_within zero left place = refused invalid_frame
nul_within (suc room) [] place = refused incomplete_data
nul_within (suc room) (byte ∷ left) place = cond (eqb byte 0) (ok (place + 1)) (nul_within room left (place + 1))

-- a name that is read: the place after its NUL, or the refusal; and the bytes that it holds
pub record Name : Type 0 where
  pub answer : Answer ℕ
  pub bytes : List ℕ

-- a name holds what it consumes, through its NUL only, and "zeros after it"; a refused one holds zeros alone
unfoldable pub held_bytes : ℕ → List ℕ → ℕ → Answer ℕ → List ℕ
held_bytes room left place (ok next) = take (next - place) left ++ replicate (room - (next - place)) 0
held_bytes room left place (refused why) = replicate room 0

-- the name of so much room that is read at a place of the bytes
unfoldable pub name_at : ℕ → List ℕ → ℕ → Name
name_at room bytes place =
    record {
      answer = nul_within room (drop place bytes) place;
      bytes = held_bytes room (drop place bytes) place (nul_within room (drop place bytes) place);
    }

-- the name that `unpack_c_string` returns, by its room
abbrev pub named : ℕ → Result (List ℕ × ℕ) DecodeError → Name
named room (Ok (bytes, next)) = record { answer = ok next; bytes = bytes }
named room (Err error) = record { answer = refused (decode_refusal error); bytes = replicate room 0 }

-- The other way: how many bytes are sent of a name that is held in its room, "the NUL among them". Document 02, W4: "7 BadName (no NUL in its room, or a
-- nonzero byte after it)"

-- no byte but zeros
unfoldable pub all_zero : List ℕ → Bool
all_zero [] = true
all_zero (byte ∷ bytes) = eqb byte 0 && all_zero bytes

-- up to the place after the first NUL, if there is one and zeros follow it
unfoldable pub sent_through : List ℕ → Answer ℕ → Answer ℕ
sent_through held (ok next) = unless (all_zero (drop next held)) bad_name (ok next)
sent_through held (refused why) = refused bad_name

unfoldable pub sent_of : ℕ → List ℕ → Answer ℕ
sent_of room held = sent_through held (nul_within room held 0)

-- what `sent_len` returns
abbrev pub name_sent : Option ℕ → Answer ℕ
name_sent (Some count) = ok count
name_sent None = refused bad_name
