-- One turn of a walk: what stands in a row of the code's table, and what is left of the widths after it.
use mathlib.Core.Path.{◌≡◌, refl, ap, ◌∙◌}
use mathlib.Core.List.{List, [], ◌∷◌, ◌++◌}
use Prim.Native.Nat.{ℕ, zero, suc, ◌+◌, ◌-◌, ◌/◌, ◌%◌, ◌^◌, ◌≤◌, ◌<◌}
use native.Mathlib.Omega.{arith}
use native.Mathlib.Nat.{sub-zero, zero-sub, suc-sub-suc, zero-add}
use native.Mathlib.Numerals.{add-one}
use borrow.Author.Tests.{eq-eqb, ne_eqb}
use lib.Dec.{T, ltb, ltb→lt}
use lib.Ieee.Fits.{and_l, and_r}
use lib.ListN.{length, get_or, drop, replicate, set, drop_of_length-le, length-drop}
use lib.Seq.{sets, sets-eq, drop-cons}
use Rattle.format.specs.Format.{table_rows}
use Rattle.packer.specs.Numbers.{be_at, big_endian, total, numbers_at, digits}
use Rattle.packer.specs.Packing.{packed, PackIs}
use Rattle.refusals.specs.Refusals.{ok}
use Rattle.refusals.specs.declared.EncodeError.{EncodeError}
use Rattle.std.specs.Prelude.{Result, Ok, Err}
use Rattle.packer.proofs.Numbers.{numbers-length}
use Rattle.packer.proofs.Digits.{digits-total}
use Rattle.packer.proofs.Writes.{digits-length, fits-answer, two-packs, none-packed}
use Rattle.tables.specs.Tables.{Coding, h, w, i, u, b, fault_byte, F, width_of, Field, entry, has_bit, takes, widths, most, values_table, setup_table, stats_table}
use Rattle.tables.specs.Sorts.{table_of}
use Rattle.tables.specs.Rows.{row_of, rows_of, padded, bits_below}
use Rattle.tables.specs.declared.Row.{Row}
use Rattle.tables.specs.declared.Sort.{Sort}
use Rattle.tables.specs.declared.Sort.TheVariants.{Values, SetupValues, Stats}
use Rattle.tables.proofs.Widths.{cond-most, widths-length, widths-most, mask-bits}

-- ---- a row

-- a mask asked for the bit of a field's row says what the field takes
module _ (mask : ℕ) (f : Field) {row : Row} (is : row ≡ row_of f) where
  pub bit-set : mask / 2 ^ row.bit % 2 ≡ 1 → row.width ≡ takes mask f
  unfolding takes has_bit
  bit-set e = rw (eq-eqb (mask / 2 ^ f.bit % 2) 1 (rw is at e)) (ap (λ (r : Row). r.width) is)

  pub bit-clear : (mask / 2 ^ row.bit % 2 ≡ 1 → ⊥) → 0 ≡ takes mask f
  unfolding takes has_bit
  bit-clear e = rw (ne_eqb (mask / 2 ^ f.bit % 2) 1 (rw is at e))

-- a field's bit is one of the mask's 32
pub bit-below : (sort : Sort) (k : ℕ) → (entry (table_of sort) k).bit < 32
bit-below =
    elim [
      | Values ↦ low 22 (omega arith) values_table mask-bits.values
      | SetupValues ↦ low 22 (omega arith) setup_table mask-bits.setup
      | Stats ↦ low 11 (omega arith) stats_table mask-bits.stats
    ]
  where
    low : (bits : ℕ) → bits ≤ 32 → (table : List Field) → T (bits_below bits table) → (k : ℕ) → (entry table k).bit < 32
    low bits small [] t k = omega arith
    low bits small (f ∷ table) t zero = let below : f.bit < bits = ltb→lt f.bit bits (and_l (ltb f.bit bits) _ t) in omega arith
    low bits small (f ∷ table) t (suc k) = low bits small table (and_r (ltb f.bit bits) _ t) k

-- a field takes four bytes at the most
wide : (coding : Coding) → width_of coding ≤ 4
wide = elim [ h scale ↦ omega arith | w scale ↦ omega arith | i ↦ omega arith | u ↦ omega arith | b ↦ omega arith | fault_byte ↦ omega arith | F ↦ omega arith ]

pub takes-most : (mask : ℕ) (f : Field) → takes mask f ≤ 4
unfolding takes
takes-most mask f = omega (arith, cond-most (has_bit mask f.bit) (width_of f.coding), wide f.coding)

-- what stands at a place of a table's rows
module _ {rows : List Row} (sort : Sort) (are : rows ≡ rows_of (table_of sort)) where
  pub rows-length : length rows ≡ length (table_of sort)
  rows-length = rw are (long (table_of sort))
    where
      long : (table : List Field) → length (rows_of table) ≡ length table
      long [] = refl
      long (f ∷ table) = ap suc (long table)

  row-at : (k : ℕ) (other : Row) → k < length rows → get_or rows k other ≡ row_of (entry (table_of sort) k)
  row-at k other l = rw are (here (table_of sort) k (omega (arith, rows-length)))
    where
      here : (table : List Field) (k : ℕ) → k < length table → get_or (rows_of table) k other ≡ row_of (entry table k)
      here [] k l = absurd (omega arith)
      here (f ∷ table) zero l = refl
      here (f ∷ table) (suc k) l = here table k (omega arith)

-- ---- the walk at the row k

width-at : (mask : ℕ) (table : List Field) (k : ℕ) → k < length table → get_or (widths mask table) k 0 ≡ takes mask (entry table k)
unfolding widths
width-at mask [] k l = absurd (omega arith)
width-at mask (f ∷ table) zero l = refl
width-at mask (f ∷ table) (suc k) l = width-at mask table k (omega arith)

-- the bytes of a table's rows from the row k on are as many as their widths say
pub rows-size
    : (mask : ℕ) (table : List Field) (raw : List ℕ) (k : ℕ) → length table ≤ length raw
    → length (digits (drop k (widths mask table)) (drop k raw)) ≡ total (drop k (widths mask table))
rows-size mask table raw k l =
    digits-total (drop k (widths mask table)) (drop k raw) (omega (arith, length-drop k (widths mask table), length-drop k raw, widths-length table mask))

-- the turns of a writing walk: what is left to write, into the slice as it is now, makes what all of it makes of the slice as it was
abbrev pub Onward : List ℕ → List ℕ → ℕ → List ℕ → List ℕ → ℕ → Type 0
Onward rest buf at all first pos = (r : Result ℕ EncodeError) (after : List ℕ) → PackIs rest buf at r after → PackIs all first pos r after

-- a turn at the row k
module _ {rows : List Row} (sort : Sort) (are : rows ≡ rows_of (table_of sort)) (k : ℕ) (other : Row) {row : Row} (l : k < length rows) (here : row ≡ get_or rows k other) where
  pub row-bit : row.bit < 32
  row-bit = rw (here, row-at sort are k other l) (bit-below sort k)

-- and by what `Row::takes` ensures of the row there
module _ {rows : List Row} (sort : Sort) (are : rows ≡ rows_of (table_of sort)) (k : ℕ) (other : Row) {row : Row} (l : k < length rows) (here : row ≡ get_or rows k other)
    (mask : ℕ) {taken : ℕ} (says : (f : Field) → row ≡ row_of f → taken ≡ takes mask f) where
  took : taken ≡ takes mask (entry (table_of sort) k)
  took = says (entry (table_of sort) k) (here ∙ row-at sort are k other l)

  pub taken-most : taken ≤ 4
  taken-most = rw took (takes-most mask (entry (table_of sort) k))

  inside : k < length (table_of sort)
  inside = omega (arith, rows-length sort are)

  next : drop k (widths mask (table_of sort)) ≡ taken ∷ drop (k + 1) (widths mask (table_of sort))
  next = rw (took, ← width-at mask (table_of sort) k inside, add-one) (drop-cons (widths mask (table_of sort)) k 0 (rw (widths-length (table_of sort) mask) inside))

  -- what the rows from here on take
  pub span-next : total (drop k (widths mask (table_of sort))) ≡ taken + total (drop (k + 1) (widths mask (table_of sort)))
  unfolding total
  span-next = ap total next

  -- and their numbers: with this one stored, those from the next row on are what is left to store
  pub stored_next : (s raw : List ℕ) (at number : ℕ) → number ≡ be_at s at taken
      → sets (set raw k number) (k + 1) (numbers_at (drop (k + 1) (widths mask (table_of sort))) s (at + taken)) ≡ sets raw k (numbers_at (drop k (widths mask (table_of sort))) s at)
  unfolding numbers_at
  stored_next s raw at number n = rw (next, n, add-one)

  -- and their bytes: those of this row's number, then those from the next row on
  digits-next : (raw : List ℕ) → k < length raw
      → digits (drop k (widths mask (table_of sort))) (drop k raw)
      ≡ big_endian taken (get_or raw k 0) ++ digits (drop (k + 1) (widths mask (table_of sort))) (drop (k + 1) raw)
  unfolding digits
  digits-next raw in_raw = rw (next, drop-cons raw k 0 in_raw, add-one)

  -- this row's number written
  module _ (raw : List ℕ) {buf m : List ℕ} {at number : ℕ} {r : Result ℕ EncodeError} (long : length (table_of sort) ≤ length raw) (its : number ≡ get_or raw k 0)
      (room : at + total (drop k (widths mask (table_of sort))) ≤ length buf) (wrote : PackIs (big_endian taken number) buf at r m) where
    fits : at + length (big_endian taken number) ≤ length buf
    fits = omega (arith, digits-length taken number, span-next)

    answered : packed r ≡ ok (at + taken)
    answered = wrote.answer ∙ fits-answer (big_endian taken number) buf at fits ∙ ap (λ (n : ℕ). ok (at + n)) (digits-length taken number)

    -- it is not refused,
    pub no-refusal : {e : EncodeError} → r ≡ Err e → ⊥
    no-refusal is = cc (answered)

    -- the place after it is answered,
    pub next-place : {v : ℕ} → r ≡ Ok v → v ≡ at + taken
    next-place is = cc (answered)

    -- and what is left to write comes behind it
    pub written_next : {v : ℕ} {all first : List ℕ} {pos : ℕ} → r ≡ Ok v → Onward (digits (drop k (widths mask (table_of sort))) (drop k raw)) buf at all first pos
        → Onward (digits (drop (k + 1) (widths mask (table_of sort))) (drop (k + 1) raw)) m v all first pos
    written_next is on s after rests =
        let both = digits-next raw (omega (arith, rows-length sort are)) in
        let size = rows-size mask (table_of sort) raw k long in
        on s after
        (rw (both, ← its) (two-packs {p = big_endian taken number} (rw (its, ← both) (omega (arith, size))) wrote
        (rw (digits-length taken number, ← next-place is) rests)))

-- ---- after the last row

module _ {rows : List Row} (sort : Sort) (are : rows ≡ rows_of (table_of sort)) (k : ℕ) (l : length rows ≤ k) (mask : ℕ) where
  past : drop k (widths mask (table_of sort)) ≡ []
  past = drop_of_length-le (widths mask (table_of sort)) {i = k} (omega (arith, widths-length (table_of sort) mask, rows-length sort are))

  pub span-past : total (drop k (widths mask (table_of sort))) ≡ 0
  unfolding total
  span-past = ap total past

  pub stored_past : (s raw : List ℕ) (at : ℕ) → sets raw k (numbers_at (drop k (widths mask (table_of sort))) s at) ≡ raw
  unfolding numbers_at
  stored_past s raw at = rw past

  pub written-past : (raw : List ℕ) {buf all first : List ℕ} {at pos : ℕ} → at ≤ length buf
      → Onward (digits (drop k (widths mask (table_of sort))) (drop k raw)) buf at all first pos → PackIs all first pos (Ok at) buf
  unfolding digits
  written-past raw {buf} {at} room on = on (Ok at) buf (rw past (none-packed buf at room))

-- ---- all of them stored over zeros

pub drop-zeros : (m n : ℕ) → drop {A = ℕ} n (replicate m 0) ≡ replicate (m - n) 0
drop-zeros m zero = rw sub-zero
drop-zeros zero (suc n) = rw zero-sub
drop-zeros (suc m) (suc n) = rw suc-sub-suc (drop-zeros m n)

pub few : (sort : Sort) → length (table_of sort) ≤ table_rows
few = elim [ Values ↦ omega arith | SetupValues ↦ omega arith | Stats ↦ omega arith ]

-- their bytes are few
pub bytes-few : (sort : Sort) (mask : ℕ) → total (widths mask (table_of sort)) ≤ 96
unfolding most
bytes-few sort mask = omega (arith, widths-most (table_of sort) mask, go sort)
  where
    go : (sort : Sort) → most (table_of sort) ≤ 96
    go = elim [ Values ↦ omega arith | SetupValues ↦ omega arith | Stats ↦ omega arith ]

pub stored-all : (sort : Sort) (mask : ℕ) (s : List ℕ)
    → sets (replicate table_rows 0) 0 (numbers_at (widths mask (table_of sort)) s 0) ≡ padded (numbers_at (widths mask (table_of sort)) s 0)
unfolding padded
stored-all sort mask s =
    let raws = numbers_at (widths mask (table_of sort)) s 0 in
    let short : length raws ≤ table_rows = rw (numbers-length (widths mask (table_of sort)) s 0, widths-length (table_of sort) mask) (few sort) in
    sets-eq raws (replicate table_rows 0) 0 (omega arith)
    ∙ ap (λ (n : ℕ). raws ++ drop n (replicate table_rows 0)) (zero-add (length raws))
    ∙ ap (λ (zeros : List ℕ). raws ++ zeros) (drop-zeros table_rows (length raws))
