-- The error bound of document 01, "Numbers", of what the scaled readers answer.
use Rattle.std.specs.Prelude.{ℕ, ◌^◌, ◌<◌, List, ℤ, Float, Result, Ok, Err, get_or}
use Rattle.floats.specs.Near.{Near, negative, size, nearness}
use Rattle.packer.specs.Numbers.{be_at, signed_of}
use Rattle.refusals.specs.declared.DecodeError.{DecodeError}

-- each number of a list is a byte, as in every slice of bytes
abbrev pub Bytes : List ℕ → Type 0
Bytes s = (at : ℕ) → get_or s at 0 < 256

-- the raw number of so many bytes at a place
abbrev pub raw_at : ℕ → List ℕ → ℕ → ℤ
raw_at width s at = signed_of (256 ^ width) (be_at s at width)

-- "for raw r and scale s the reading is within |r|/s divided by 2^22 of r/s": x is that near, for the raw number of so many bytes at a place
abbrev pub ScaledNear : ℕ → ℕ → List ℕ → ℕ → Float → Type 0
ScaledNear width scale s at x = Near x (negative (raw_at width s at)) (size (raw_at width s at)) scale nearness

-- the value that was read, where one was
abbrev pub ResultNear : ℕ → ℕ → List ℕ → ℕ → Result (Float × ℕ) DecodeError → Type 0
ResultNear width scale s at (Ok (value, next)) = ScaledNear width scale s at value
ResultNear width scale s at (Err e) = Unit {0}
