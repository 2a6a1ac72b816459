-- Asking a mask for bits. A query is made with named bits, each a power of 2, that a caller joins by `|`; a record's mask is asked by the same.
use Rattle.std.specs.Prelude.{Bool, true, ◌↔◌, ◌≡◌, ℕ, ◌<◌, ◌^◌}
use Rattle.std.specs.Int.Bits.{bit_or}
use Rattle.tables.specs.Tables.{has_bit}
use Rattle.tables.specs.Sorts.{mask_bits, known_bits}
use Rattle.tables.specs.declared.Sort.{Sort}

-- a mask has every bit of these
abbrev pub HasBits : ℕ → ℕ → Type 0
HasBits mask bits = (k : ℕ) → has_bit bits k ≡ true → has_bit mask k ≡ true

pub record AskedBits : Type 0 where
  -- one of them
  pub one : (mask bit : ℕ) → HasBits mask (2 ^ bit) ↔ (has_bit mask bit ≡ true)
  -- several, joined by `|`
  pub joined : (mask a b : ℕ) → HasBits mask (bit_or a b) ↔ (HasBits mask a × HasBits mask b)
  -- and asking has one answer
  pub answer : (mask bits : ℕ) (a b : Bool) → (a ≡ true) ↔ HasBits mask bits → (b ≡ true) ↔ HasBits mask bits → a ≡ b

pub record KnownBits : Type 0 where
  -- a mask is known if and only if each of its bits is one of the reply's table
  pub known : (sort : Sort) (mask : ℕ) → (known_bits sort mask ≡ true) ↔ ((k : ℕ) → has_bit mask k ≡ true → k < mask_bits sort)
