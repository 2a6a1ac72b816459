-- Reading at a position of a slice, document 01, "The envelope": "A read past the end of the slice is 1."
-- What a reader returns is told by `consumed`.
use Rattle.std.specs.Prelude.{ℕ, ◌+◌, ◌^◌, ◌<◌, cond, List, leb, Option, Some, None, Result, Ok, Err, ℤ, Float, length, take, drop}
use Rattle.std.specs.Float.Ieee as Ieee
use Rattle.std.specs.Float.{binary32}
use Rattle.refusals.specs.Refusals.{Answer, ok, refused, incomplete_data}
use Rattle.refusals.specs.declared.DecodeError.{DecodeError}
use Rattle.floats.specs.Numbers.{over_scale}
use Rattle.packer.specs.Numbers.{be_at, signed_of}

-- the place after so many bytes at a place, if they lie among `len`
abbrev pub end_within : ℕ → ℕ → ℕ → Option ℕ
end_within len at width = cond (leb (at + width) len) (Some (at + width)) None

-- what reading a value of so many bytes at a place answers: the value and the place after it, or IncompleteData
unfoldable pub read_at : {A : Type 0} → ℕ → A → List ℕ → ℕ → Answer (A × ℕ)
read_at width value s at = cond (leb (at + width) (length s)) (ok (value, at + width)) (refused incomplete_data)

-- an unsigned number of so many bytes
abbrev pub unsigned_at : ℕ → List ℕ → ℕ → Answer (ℕ × ℕ)
unsigned_at width s at = read_at width (be_at s at width) s at

-- a signed one
abbrev pub signed_at : ℕ → List ℕ → ℕ → Answer (ℤ × ℕ)
signed_at width s at = read_at width (signed_of (256 ^ width) (be_at s at width)) s at

-- h_s and w_s, a signed number over a scale
abbrev pub scaled_at : ℕ → Float → List ℕ → ℕ → Answer (Float × ℕ)
scaled_at width scale s at = read_at width (over_scale (signed_of (256 ^ width) (be_at s at width)) scale) s at

-- F, a binary32 by its bits
abbrev pub float_at : List ℕ → ℕ → Answer (Float × ℕ)
float_at s at = read_at 4 (Ieee.of_bits binary32 (be_at s at 4)) s at

-- so many bytes as they stand: where they end, or IncompleteData
unfoldable pub consume_at : ℕ → List ℕ → ℕ → Answer ℕ
consume_at width s at = cond (leb (at + width) (length s)) (ok (at + width)) (refused incomplete_data)

-- "12 uuid bytes"
abbrev pub uuid_at : List ℕ → ℕ → Answer (List ℕ × ℕ)
uuid_at s at = read_at 12 (take 12 (drop at s)) s at

-- a number that was read lies below a bound
abbrev pub NumberBelow : ℕ → Result (ℕ × ℕ) DecodeError → Type 0
NumberBelow bound (Ok (value, next)) = value < bound
NumberBelow bound (Err e) = Unit {0}
