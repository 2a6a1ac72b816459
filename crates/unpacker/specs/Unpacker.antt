-- The thin `Unpacker` of document 01, "Port order and change of shape": "Last, a thin `Unpacker` over the lent frame as in the Rust." What a read at its
-- position answers, and where it leaves it: `consume` and `unpack_c_string` of src/packer.rs.
use Rattle.std.specs.Prelude.{◌≡◌, cond, List, ℕ, ◌+◌, eqb, ltb, Float, length, Result, Ok, Err}
use Rattle.std.specs.Borrow.{Bor}
use Rattle.refusals.specs.Refusals.{Answer, ok, refused}
use Rattle.refusals.specs.declared.DecodeError.{DecodeError}
use Rattle.packer.specs.Unpacking.{unsigned_at, scaled_at}
use Rattle.names.specs.Names.{Name, name_at}
use Rattle.unpacker.specs.declared.Unpacker.{Unpacker}

-- a read at a position: what it answers, and where it leaves the position
pub record Read (X : Type 0) : Type 0 where
  pub answer : X
  pub place : ℕ

-- where a number leaves the position: after its bytes; a refused one consumes nothing
abbrev pub place_after : {A : Type 0} → Answer (A × ℕ) → ℕ → ℕ
place_after (ok (value, next)) pos = next
place_after (refused why) pos = pos

-- the read of a number, by what it answers
abbrev pub number : {A : Type 0} → Answer (A × ℕ) → ℕ → Read (Answer (A × ℕ))
number answer pos = record { answer = answer; place = place_after answer pos }

-- an unsigned number of so many bytes
abbrev pub unsigned_read : ℕ → List ℕ → ℕ → Read (Answer (ℕ × ℕ))
unsigned_read width s pos = number (unsigned_at width s pos) pos

-- h_s and w_s, a signed number over a scale
abbrev pub scaled_read : ℕ → Float → List ℕ → ℕ → Read (Answer (Float × ℕ))
scaled_read width scale s pos = number (scaled_at width scale s pos) pos

-- where a name of so much room leaves the position: after its NUL. "A read past the end of the slice is 1": at the end, or where it was, past that
-- already. "2 for a name without NUL": after its room
unfoldable pub name_end : ℕ → List ℕ → ℕ → Answer ℕ → ℕ
name_end room s pos (ok next) = next
name_end room s pos (refused why) = cond (eqb why.number 1) (cond (ltb pos (length s)) (length s) pos) (pos + room)

-- the read of a name
abbrev pub name_read : ℕ → List ℕ → ℕ → Read Name
name_read room s pos = record { answer = name_at room s pos; place = name_end room s pos (name_at room s pos).answer }

-- `new`: the lent slice, at its start
abbrev pub fresh : Bor (List ℕ) → Unpacker
fresh buf = record { buf = buf; pos = 0 }

-- the same slice, at another place
abbrev pub moved : Unpacker → ℕ → Unpacker
moved u place = record { buf = u.buf; pos = place }

-- what a method returns, with the place after its read, where the Unpacker then stands
abbrev pub placed : {A : Type 0} → Result A DecodeError → ℕ → Result (A × ℕ) DecodeError
placed (Ok value) place = Ok (value, place)
placed (Err error) place = Err error

-- a read where the Unpacker u stands: what is answered, and what the Unpacker then is
pub record ReadIs {X : Type 0} (read : List ℕ → ℕ → Read X) (u : Unpacker) (answer : X) (after : Unpacker) : Type 0 where
  pub answers : answer ≡ (read u.buf.now u.pos).answer
  pub leaves : after ≡ moved u (read u.buf.now u.pos).place
