-- What the reads of an `Unpacker` answer and where each leaves the position: of one at a place, and of four in a row, from the start of a slice, each
-- where the one before it left the position.
use Rattle.std.specs.Prelude.{ℕ, List, Float}
use Rattle.refusals.specs.Refusals.{Answer, consumed}
use Rattle.names.specs.Names.{Name, named}
use Rattle.unpacker.specs.Unpacker.{Read, placed, unsigned_read, scaled_read, name_read}
use Rattle.replay.specs.declared.thin.Read.{Read as Told}
use Rattle.replay.specs.declared.thin.Row.{Row}

-- the read of a number that is told of
abbrev pub number_told : {A : Type 0} → Told A → Read (Answer (A × ℕ))
number_told told = record { answer = consumed (placed told.answer told.pos); place = told.pos }

-- the read of a name of so much room
abbrev pub name_told : ℕ → Told (List ℕ) → Read Name
name_told room told = record { answer = named room (placed told.answer told.pos); place = told.pos }

pub record Four : Type 0 where
  pub byte : Read (Answer (ℕ × ℕ))
  pub name : Read Name
  pub number : Read (Answer (ℕ × ℕ))
  pub scaled : Read (Answer (Float × ℕ))

abbrev pub in_a_row : Float → List ℕ → Four
in_a_row scale s =
    let byte = unsigned_read 1 s 0 in
    let name = name_read 39 s byte.place in
    let number = unsigned_read 4 s name.place in
    record { byte = byte; name = name; number = number; scaled = scaled_read 4 scale s number.place }

-- the four that a row is
abbrev pub row_four : Row → Four
row_four r = record { byte = number_told r.byte; name = name_told 39 r.name; number = number_told r.number; scaled = number_told r.scaled }
