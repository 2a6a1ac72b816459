-- Rows of the table at the front of the bytes: when the code's row stands there, and the first row that does.
use Rattle.std.specs.Prelude.{◌≡◌, ℕ, ◌<◌, ◌≤◌, Bool, true, false, cond, ◌&&◌, List, [], ◌∷◌, length, drop}
use mathlib.Core.Path.{refl, sym, ap, ◌∙◌}
use mathlib.Core.Bool.{and-false, and-eq-true_iff, false≢true}
use native.Mathlib.Omega.{arith}
use lib.ListN.{length-map}
use Rattle.names.proofs.Scanning.{rest-whole}
use Rattle.std.specs.Prelude.{◌-◌, take, map, find, Option, Some, None}
use Rattle.std.specs.List.{list_all, zip}
use Rattle.std.specs.Borrow.{Bor}
use Rattle.std.proofs.lemmas.Option.{none-some, same_Some}
use Rattle.text.specs.Utf8.{Row, table, range_of, within, stands, front_length}

-- ---- the code's rows

-- the row that a code's row is
abbrev pub row_of : Bor (List (ℕ × ℕ)) → Row
row_of row = map range_of row.now

-- a byte of a code's row
abbrev pub inside : (ℕ × ℕ) × ℕ → Bool
inside pair = within (range_of pair.0) pair.1

-- a row that is no longer than the bytes stands where each byte lies in its range
pub stands-all : (row : List (ℕ × ℕ)) (bytes : List ℕ) → length row ≤ length bytes → stands (map range_of row) bytes ≡ list_all inside (zip row bytes)
unfolding stands
stands-all [] bytes fits = refl
stands-all (r ∷ row) [] fits = absurd (omega arith)
stands-all (r ∷ row) (byte ∷ bytes) fits = ap (λ b. within (range_of r) byte && b) (stands-all row bytes (omega arith))

-- a longer one does not
pub stands-short : (row : List (ℕ × ℕ)) (bytes : List ℕ) → length bytes < length row → stands (map range_of row) bytes ≡ false
unfolding stands
stands-short [] bytes short = absurd (omega arith)
stands-short (r ∷ row) [] short = refl
stands-short (r ∷ row) (byte ∷ bytes) short = rw (stands-short row bytes (omega arith)) (and-false _)

-- the code's rows, of which the first is looked for that stands at the front of the bytes
module _ (bytes : List ℕ) where
  -- the test of the look
  abbrev pub at-front : Bor (List (ℕ × ℕ)) → Bool
  at-front row = stands (row_of row) bytes

  -- the length of the row that is found
  abbrev pub found_length : Option (Bor (List (ℕ × ℕ))) → ℕ
  found_length (Some row) = length row.now
  found_length None = 0

  one-row
      : (row : Bor (List (ℕ × ℕ))) (b : Bool) (on : Option (Bor (List (ℕ × ℕ)))) (rest : ℕ) → rest ≡ found_length on
      → cond b (length (row_of row)) rest ≡ found_length (cond b (Some row) on)
  one-row row true on rest e = length-map row.now range_of
  one-row row false on rest e = e

  -- the sequence at the front is as long as the row that is found
  pub front-found : (rows : List (Bor (List (ℕ × ℕ)))) → front_length (map row_of rows) bytes ≡ found_length (find at-front rows)
  unfolding front_length
  front-found [] = refl
  front-found (row ∷ rows) = one-row row (at-front row) _ _ (front-found rows)

-- no row of the table is empty
abbrev some : Row → Bool
some [] = false
some (r ∷ row) = true

-- computed
table-some : list_all some table ≡ true
table-some = refl

-- nor is a row that is found
found-some
    : (test : Bor (List (ℕ × ℕ)) → Bool) (rows : List (Bor (List (ℕ × ℕ)))) (row : Bor (List (ℕ × ℕ))) → list_all some (map row_of rows) ≡ true
    → find test rows ≡ Some row → some (row_of row) ≡ true
found-some test [] row each found = absurd (none-some row found)
found-some test (first ∷ rows) row each found =
    let both = (and-eq-true_iff (some (row_of first)) (list_all some (map row_of rows))).0 each in
    one (test first) found both.0 (found-some test rows row both.1)
  where
    one : (b : Bool) → cond b (Some first) (find test rows) ≡ Some row → some (row_of first) ≡ true → (find test rows ≡ Some row → some (row_of row) ≡ true) → some (row_of row) ≡ true
    one true e here on = rw (← same_Some first row e) here
    one false e here on = on e

-- a row that stands is no longer than the bytes
stands-within : (row : Row) (bytes : List ℕ) → stands row bytes ≡ true → length row ≤ length bytes
unfolding stands
stands-within [] bytes e = omega arith
stands-within (r ∷ row) [] e = absurd (false≢true e)
stands-within (r ∷ row) (byte ∷ bytes) e =
    let rest = stands-within row bytes ((and-eq-true_iff (within r byte) (stands row bytes)).0 e).1 in
    omega arith

cond-within : (b : Bool) (m n k : ℕ) → (b ≡ true → m ≤ k) → n ≤ k → cond b m n ≤ k
cond-within true m n k here on = here refl
cond-within false m n k here on = on

-- nor is the sequence at the front
pub front-within : (rows : List Row) (bytes : List ℕ) → front_length rows bytes ≤ length bytes
unfolding front_length
front-within [] bytes = omega arith
front-within (row ∷ rows) bytes = cond-within (stands row bytes) (length row) (front_length rows bytes) (length bytes) (stands-within row bytes) (front-within rows bytes)

-- ---- what the look for a row says, where the code's rows are the table's

module _ (bytes : List ℕ) (rows : List (Bor (List (ℕ × ℕ)))) (is : map row_of rows ≡ table) where
  pub front-is : (found : Option (Bor (List (ℕ × ℕ)))) → find (at-front bytes) rows ≡ found → front_length table bytes ≡ found_length bytes found
  front-is found e = ap (λ t. front_length t bytes) (sym is) ∙ front-found bytes rows ∙ ap (found_length bytes) e

  module _ (row : Bor (List (ℕ × ℕ))) (found : find (at-front bytes) rows ≡ Some row) where
    pub row-fits : length row.now ≤ length bytes
    row-fits = let size = front-is (Some row) found in omega (arith, front-within table bytes)

    row-some : 0 < length row.now
    row-some = by row.now (found-some (at-front bytes) rows row (ap (list_all some) is ∙ table-some) found)
      where
        by : (row : List (ℕ × ℕ)) → some (map range_of row) ≡ true → 0 < length row
        by [] e = absurd (false≢true e)
        by (r ∷ row) e = omega arith

    pub row-passed
        : (0 < front_length table bytes) × (take (length bytes - length row.now) (drop (length row.now) bytes) ≡ drop (front_length table bytes) bytes)
    row-passed = rw (front-is (Some row) found) (row-some, rest-whole bytes (length row.now))
