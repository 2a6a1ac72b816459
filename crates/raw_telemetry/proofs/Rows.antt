-- Rows and their numbers undo each other: shown for each coding, and then over the table.
use mathlib.Core.Path.{◌≡◌, refl, ap, ap₂, ◌∙◌}
use mathlib.Core.Bool.{Bool, true, false, cond}
use mathlib.Core.List.{List, [], ◌∷◌, ◌++◌}
use Prim.Native.Nat.{ℕ, suc, ◌%◌, ◌^◌, ◌<◌}
use native.Mathlib.Omega.{arith}
use native.Mathlib.Nat.{mod-eq_of_lt}
use lib.ListN.{get_or}
use Rattle.packer.specs.Numbers.{big_endian, digits, Below, signed_of, unsigned_of}
use Rattle.packer.proofs.Complement.{mag-below-half, signed_back, unsigned_back, unsigned-below}
use Rattle.tables.specs.Tables.{Coding, h, w, i, u, b, fault_byte, F, Field, width_of, has_bit, takes, widths}
use Rattle.raw_telemetry.specs.Rows.{Raw, number_by, raw_by, RawFits, Rows, RowsFit, numbers_of, rows_from, present_by, present}
use Rattle.raw_telemetry.specs.Laws.{RowLaws}

-- ---- one value

half_back : (n : ℕ) → n < 65536 → unsigned_of (256 ^ 2) (signed_of 65536 (n % 65536)) ≡ n
half_back n below = rw (mod-eq_of_lt below) (unsigned_back 32768 n below)

-- a number of so many bytes is that of its value
number-back : (c : Coding) (n : ℕ) → n < 256 ^ width_of c → number_by c (raw_by c n) ≡ n
number-back (h scale) n below = half_back n below
number-back (w scale) n below = unsigned_back 2147483648 n below
number-back i n below = unsigned_back 2147483648 n below
number-back u n below = refl
number-back b n below = mod-eq_of_lt below
number-back fault_byte n below = mod-eq_of_lt below
number-back F n below = refl

-- a value comes back from its number, which has so many bytes
raw-back : (c : Coding) (value : Raw c) → RawFits c value → raw_by c (number_by c value) ≡ value
raw-back (h scale) z fits = rw (mod-eq_of_lt (unsigned-below 32768 z fits)) (signed_back 32768 z fits)
raw-back (w scale) z fits = signed_back 2147483648 z fits
raw-back i z fits = signed_back 2147483648 z fits
raw-back u n fits = refl
raw-back b n fits = mod-eq_of_lt fits
raw-back fault_byte n fits = mod-eq_of_lt fits
raw-back F n fits = refl

number-below : (c : Coding) (value : Raw c) → RawFits c value → number_by c value < 256 ^ width_of c
number-below (h scale) z fits = unsigned-below 32768 z fits
number-below (w scale) z fits = unsigned-below 2147483648 z fits
number-below i z fits = unsigned-below 2147483648 z fits
number-below u n fits = fits
number-below b n fits = fits
number-below fault_byte n fits = fits
number-below F n fits = fits

-- what is read fits
raw-fits : (c : Coding) (n : ℕ) → n < 256 ^ width_of c → RawFits c (raw_by c n)
raw-fits (h scale) n below = mag-below-half 32768 (n % 65536) (omega arith)
raw-fits (w scale) n below = mag-below-half 2147483648 n below
raw-fits i n below = mag-below-half 2147483648 n below
raw-fits u n below = below
raw-fits b n below = omega arith
raw-fits fault_byte n below = omega arith
raw-fits F n below = below

-- zero is sent as 0
zero_number : (c : Coding) → number_by c (raw_by c 0) ≡ 0
zero_number c = number-back c 0 (zero-below c)
  where
    zero-below : (c : Coding) → 0 < 256 ^ width_of c
    zero-below (h scale) = omega arith
    zero-below (w scale) = omega arith
    zero-below i = omega arith
    zero-below u = omega arith
    zero-below b = omega arith
    zero-below fault_byte = omega arith
    zero-below F = omega arith

-- ---- one row, under its bit

-- a number of as many bytes as the row takes
taken-below : (p : Bool) (c : Coding) (n : ℕ) → n < 256 ^ cond p (width_of c) 0 → n < 256 ^ width_of c
taken-below true c n below = below
taken-below false (h scale) n below = omega arith
taken-below false (w scale) n below = omega arith
taken-below false i n below = omega arith
taken-below false u n below = omega arith
taken-below false b n below = omega arith
taken-below false fault_byte n below = omega arith
taken-below false F n below = omega arith

-- is zero where the bit is not set
taken-present : (p : Bool) (c : Coding) (n : ℕ) → n < 256 ^ cond p (width_of c) 0 → present_by p c (raw_by c n) ≡ raw_by c n
taken-present true c n below = refl
taken-present false c n below = let none : n ≡ 0 = omega arith in rw none

present-below : (p : Bool) (c : Coding) (value : Raw c) → RawFits c value → number_by c (present_by p c value) < 256 ^ cond p (width_of c) 0
present-below true c value fits = number-below c value fits
present-below false c value fits = rw (zero_number c) (omega arith)

present-fits : (p : Bool) (c : Coding) (value : Raw c) → RawFits c value → RawFits c (present_by p c value)
present-fits true c value fits = fits
present-fits false (h scale) value fits = raw-fits (h scale) 0 (omega arith)
present-fits false (w scale) value fits = raw-fits (w scale) 0 (omega arith)
present-fits false i value fits = raw-fits i 0 (omega arith)
present-fits false u value fits = omega arith
present-fits false b value fits = omega arith
present-fits false fault_byte value fits = omega arith
present-fits false F value fits = omega arith

-- what has no bytes is not sent
sent-alike : (p : Bool) (c : Coding) (value : Raw c) → big_endian (cond p (width_of c) 0) (number_by c (present_by p c value)) ≡ big_endian (cond p (width_of c) 0) (number_by c value)
unfolding big_endian
sent-alike true c value = refl
sent-alike false c value = refl

-- ---- over the table

-- rows from the second number on are those of the numbers behind the first
rows_behind : (table : List Field) (n : ℕ) (raws : List ℕ) (k : ℕ) → rows_from table (n ∷ raws) (suc k) ≡ rows_from table raws k
unfolding rows_from
rows_behind [] n raws k = refl
rows_behind (f ∷ table) n raws k = ap (λ (rows : Rows table). (raw_by f.coding (get_or raws k 0), rows)) (rows_behind table n raws (suc k))

numbers-read : (table : List Field) (mask : ℕ) (raws : List ℕ) → Below (widths mask table) raws → numbers_of table (rows_from table raws 0) ≡ raws
unfolding numbers_of rows_from widths takes
numbers-read [] mask [] below = refl
numbers-read [] mask (n ∷ raws) below = absurd below
numbers-read (f ∷ table) mask [] below = absurd below
numbers-read (f ∷ table) mask (n ∷ raws) below =
    ap₂ (λ (first : ℕ) (others : List ℕ). first ∷ others) (number-back f.coding n (taken-below (has_bit mask f.bit) f.coding n below.0))
    (ap (numbers_of table) (rows_behind table n raws 0) ∙ numbers-read table mask raws below.1)

read-present : (table : List Field) (mask : ℕ) (raws : List ℕ) → Below (widths mask table) raws → present mask table (rows_from table raws 0) ≡ rows_from table raws 0
unfolding present rows_from widths takes
read-present [] mask raws below = refl
read-present (f ∷ table) mask [] below = absurd below
read-present (f ∷ table) mask (n ∷ raws) below =
    let rest : present mask table (rows_from table (n ∷ raws) 1) ≡ rows_from table (n ∷ raws) 1 = rw (rows_behind table n raws 0) (read-present table mask raws below.1) in
    λ j. (taken-present (has_bit mask f.bit) f.coding n below.0 j, rest j)

read_fits : (table : List Field) (mask : ℕ) (raws : List ℕ) → Below (widths mask table) raws → RowsFit table (rows_from table raws 0)
unfolding rows_from widths takes
read_fits [] mask raws below = tt
read_fits (f ∷ table) mask [] below = absurd below
read_fits (f ∷ table) mask (n ∷ raws) below = (
  raw-fits f.coding n (taken-below (has_bit mask f.bit) f.coding n below.0),
  rw (rows_behind table n raws 0) (read_fits table mask raws below.1),
)

rows-below : (table : List Field) (mask : ℕ) (rows : Rows table) → RowsFit table rows → Below (widths mask table) (numbers_of table (present mask table rows))
unfolding numbers_of present widths takes
rows-below [] mask rows fits = tt
rows-below (f ∷ table) mask rows fits =
    (present-below (has_bit mask f.bit) f.coding rows.0 fits.0, rows-below table mask rows.1 fits.1)

rows-read : (table : List Field) (rows : Rows table) → RowsFit table rows → rows_from table (numbers_of table rows) 0 ≡ rows
unfolding numbers_of rows_from
rows-read [] rows fits = refl
rows-read (f ∷ table) rows fits =
    let rest = rows_behind table (number_by f.coding rows.0) (numbers_of table rows.1) 0 ∙ rows-read table rows.1 fits.1 in
    λ j. (raw-back f.coding rows.0 fits.0 j, rest j)

present-rows-fit : (table : List Field) (mask : ℕ) (rows : Rows table) → RowsFit table rows → RowsFit table (present mask table rows)
unfolding present
present-rows-fit [] mask rows fits = tt
present-rows-fit (f ∷ table) mask rows fits =
    (present-fits (has_bit mask f.bit) f.coding rows.0 fits.0, present-rows-fit table mask rows.1 fits.1)

digits-alike : (table : List Field) (mask : ℕ) (rows : Rows table)
    → digits (widths mask table) (numbers_of table (present mask table rows)) ≡ digits (widths mask table) (numbers_of table rows)
unfolding digits numbers_of present widths takes
digits-alike [] mask rows = refl
digits-alike (f ∷ table) mask rows =
    ap₂ (λ (first others : List ℕ). first ++ others) (sent-alike (has_bit mask f.bit) f.coding rows.0) (digits-alike table mask rows.1)

pub row_laws : (table : List Field) → RowLaws table
row_laws table =
    record {
      numbers-back = numbers-read table;
      read-present = read-present table;
      read_fits = read_fits table;
      below = rows-below table;
      rows_back = rows-read table;
      present-fits = present-rows-fit table;
      digits-present = digits-alike table;
    }
