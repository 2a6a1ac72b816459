-- The Unicode Standard, table 3-7, "Well-Formed UTF-8 Byte Sequences".
use Rattle.std.specs.Prelude.{◌≡◌, ℕ, zero, suc, Bool, true, false, cond, ◌&&◌, List, [], ◌∷◌, length, drop, nat_le}
use mathlib.Core.List.{Memᴰ}

-- the bytes from the first to the last, both among them
pub data Range : Type 0 where
  range : ℕ → ℕ → Range

-- a row of the table: a range for each byte of the sequence, in order
abbrev pub Row : Type 0
Row = List Range

-- the table, a line a row, in its order
abbrev pub table : List Row
table =
    (range 0x00 0x7F ∷ [])  -- U+0000..U+007F: 00..7F
    ∷ (range 0xC2 0xDF ∷ range 0x80 0xBF ∷ [])  -- U+0080..U+07FF: C2..DF 80..BF
    ∷ (range 0xE0 0xE0 ∷ range 0xA0 0xBF ∷ range 0x80 0xBF ∷ [])  -- U+0800..U+0FFF: E0 A0..BF 80..BF
    ∷ (range 0xE1 0xEC ∷ range 0x80 0xBF ∷ range 0x80 0xBF ∷ [])  -- U+1000..U+CFFF: E1..EC 80..BF 80..BF
    ∷ (range 0xED 0xED ∷ range 0x80 0x9F ∷ range 0x80 0xBF ∷ [])  -- U+D000..U+D7FF: ED 80..9F 80..BF
    ∷ (range 0xEE 0xEF ∷ range 0x80 0xBF ∷ range 0x80 0xBF ∷ [])  -- U+E000..U+FFFF: EE..EF 80..BF 80..BF
    ∷ (range 0xF0 0xF0 ∷ range 0x90 0xBF ∷ range 0x80 0xBF ∷ range 0x80 0xBF ∷ [])  -- U+10000..U+3FFFF: F0 90..BF 80..BF 80..BF
    ∷ (range 0xF1 0xF3 ∷ range 0x80 0xBF ∷ range 0x80 0xBF ∷ range 0x80 0xBF ∷ [])  -- U+40000..U+FFFFF: F1..F3 80..BF 80..BF 80..BF
    ∷ (range 0xF4 0xF4 ∷ range 0x80 0x8F ∷ range 0x80 0xBF ∷ range 0x80 0xBF ∷ [])  -- U+100000..U+10FFFF: F4 80..8F 80..BF 80..BF
    ∷ []

-- a byte lies in a range
unfoldable pub within : Range → ℕ → Bool
within (range first last) byte = nat_le first byte && nat_le byte last

-- the range that the code's first and last byte are
abbrev pub range_of : ℕ × ℕ → Range
range_of (first, last) = range first last

-- a row's sequence stands at the front of the bytes
unfoldable pub stands : Row → List ℕ → Bool
stands [] bytes = true
stands (r ∷ row) [] = false
stands (r ∷ row) (byte ∷ bytes) = within r byte && stands row bytes

-- how long the sequence at the front of the bytes is: that of the first row that stands there; 0 where none does
unfoldable pub front_length : List Row → List ℕ → ℕ
front_length [] bytes = 0
front_length (row ∷ rows) bytes = cond (stands row bytes) (length row) (front_length rows bytes)

-- what the rest says, after the first byte of a sequence; false where there is no sequence
abbrev pub after_first_byte : ℕ → (ℕ → Bool) → Bool
after_first_byte zero rest = false
after_first_byte (suc more) rest = rest more

-- well-formed once the next `more` bytes, of a sequence that has begun, are passed
unfoldable pub well_formed_after : ℕ → List ℕ → Bool
well_formed_after more [] = true
well_formed_after (suc more) (byte ∷ bytes) = well_formed_after more bytes
well_formed_after zero (byte ∷ bytes) = after_first_byte (front_length table (byte ∷ bytes)) (λ more. well_formed_after more bytes)

-- well-formed: empty, or a row's sequence and then what is well-formed
unfoldable pub well_formed : List ℕ → Bool
well_formed bytes = well_formed_after 0 bytes

-- the same as a rule, with no order among the rows
pub data WellFormed : List ℕ → Type 0 where
  empty : WellFormed []
  sequence : {row : Row} {bytes : List ℕ} → Memᴰ row table → stands row bytes ≡ true → WellFormed (drop (length row) bytes) → WellFormed bytes
