-- Telemetry as frames carry it: a value for each row of a field table (tables/specs/Tables.antt), in the table's order. Document 02, W4: "a raw telemetry
-- record (whole numbers before scaling, floats by their bits, flag and kind bytes as carried)".
use Rattle.std.specs.Prelude.{Bool, true, false, List, [], ◌∷◌, ℕ, zero, suc, ◌%◌, ◌^◌, ◌<◌, ℤ, get_or}
use Rattle.std.specs.Int.Signed.{mag}
use Rattle.packer.specs.Numbers.{signed_of, unsigned_of}
use Rattle.tables.specs.Tables.{Coding, h, w, i, u, b, fault_byte, F, Field, entry, has_bit}

-- what a field carries: of h_s and w_s the number before it is divided by S, of F the bits, of fault_code the byte
abbrev pub Raw : Coding → Type 0
Raw (h scale) = ℤ
Raw (w scale) = ℤ
Raw i = ℤ
Raw u = ℕ
Raw b = ℕ
Raw fault_byte = ℕ
Raw F = ℕ

-- as the number that is sent: a signed one in two's complement
abbrev pub number_by : (c : Coding) → Raw c → ℕ
number_by (h scale) z = unsigned_of (256 ^ 2) z
number_by (w scale) z = unsigned_of (256 ^ 4) z
number_by i z = unsigned_of (256 ^ 4) z
number_by u n = n
number_by b n = n
number_by fault_byte n = n
number_by F n = n

-- and back, from the lowest bits of a number
abbrev pub raw_by : (c : Coding) → ℕ → Raw c
raw_by (h scale) n = signed_of 65536 (n % 65536)
raw_by (w scale) n = signed_of 4294967296 n
raw_by i n = signed_of 4294967296 n
raw_by u n = n
raw_by b n = n % 256
raw_by fault_byte n = n % 256
raw_by F n = n

-- it fits its type, as every one of the code does
abbrev pub RawFits : (c : Coding) → Raw c → Type 0
RawFits (h scale) z = mag z < 2 ^ 15
RawFits (w scale) z = mag z < 2 ^ 31
RawFits i z = mag z < 2 ^ 31
RawFits u n = n < 2 ^ 32
RawFits b n = n < 2 ^ 8
RawFits fault_byte n = n < 2 ^ 8
RawFits F n = n < 2 ^ 32

-- a value for each row of a table, one after the other
abbrev pub Rows : List Field → Type 0
Rows [] = Unit {0}
Rows (f ∷ table) = Raw f.coding × Rows table

infixr 5 ◌▹◌
abbrev pub ◌▹◌ : {A B : Type 0} → A → B → A × B
first ▹ others = (first, others)

-- the value of the row at a place
abbrev pub row : (table : List Field) → Rows table → (k : ℕ) → Raw (entry table k).coding
row [] rows k = 0
row (f ∷ table) rows zero = rows.0
row (f ∷ table) rows (suc k) = row table rows.1 k

abbrev pub RowsFit : (table : List Field) → Rows table → Type 0
RowsFit [] rows = Unit {0}
RowsFit (f ∷ table) rows = RawFits f.coding rows.0 × RowsFit table rows.1

-- their numbers
unfoldable pub numbers_of : (table : List Field) → Rows table → List ℕ
numbers_of [] rows = []
numbers_of (f ∷ table) rows = number_by f.coding rows.0 ∷ numbers_of table rows.1

-- and back, from the number at place k on
unfoldable pub rows_from : (table : List Field) → List ℕ → ℕ → Rows table
rows_from [] raws k = tt
rows_from (f ∷ table) raws k = (raw_by f.coding (get_or raws k 0), rows_from table raws (suc k))

-- a value whose bit is set, and zero instead of one whose bit is not
abbrev pub present_by : Bool → (c : Coding) → Raw c → Raw c
present_by true c value = value
present_by false c value = raw_by c 0

-- the rows under a mask: "Only fields whose mask bit is set are written; absent ones .. must be zero to be read back equal"
unfoldable pub present : (mask : ℕ) (table : List Field) → Rows table → Rows table
present mask [] rows = tt
present mask (f ∷ table) rows = (present_by (has_bit mask f.bit) f.coding rows.0, present mask table rows.1)
