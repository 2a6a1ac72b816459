-- Numbers as bytes, document 01, "The envelope": "All numbers are big-endian." Each definition is over the width, in bytes.
--
use Rattle.std.specs.Prelude.{ℕ, zero, suc, ◌+◌, ◌*◌, ◌-◌, ◌/◌, ◌%◌, ◌^◌, ◌<◌, cond, List, [], ◌∷◌, ◌++◌, ltb, ℤ, pos, negsuc, get_or}

-- the number that the bytes of s from a place on are, so many, the highest first
unfoldable pub be_at : List ℕ → ℕ → ℕ → ℕ
be_at s at zero = 0
be_at s at (suc width) = be_at s at width * 256 + get_or s (at + width) 0

-- the bytes of a number, so many, the highest first
unfoldable pub big_endian : ℕ → ℕ → List ℕ
big_endian zero n = []
big_endian (suc width) n = big_endian width (n / 256) ++ (n % 256 ∷ [])

-- numbers one after the other, by their widths: the bytes that they take
unfoldable pub total : List ℕ → ℕ
total [] = 0
total (width ∷ widths) = width + total widths

-- and what they are, from a place on. A number of no bytes is 0
unfoldable pub numbers_at : List ℕ → List ℕ → ℕ → List ℕ
numbers_at [] s at = []
numbers_at (width ∷ widths) s at = be_at s at width ∷ numbers_at widths s (at + width)

-- and their bytes, each number in its width. A number of no bytes has none, whatever it is
unfoldable pub digits : List ℕ → List ℕ → List ℕ
digits [] ns = []
digits (width ∷ widths) [] = []
digits (width ∷ widths) (n ∷ ns) = big_endian width n ++ digits widths ns

-- as many numbers as widths, and each has bytes enough: one of no bytes is 0
abbrev pub Below : List ℕ → List ℕ → Type 0
Below [] [] = Unit {0}
Below [] (n ∷ ns) = ⊥
Below (width ∷ widths) [] = ⊥
Below (width ∷ widths) (n ∷ ns) = (n < 256 ^ width) × Below widths ns

-- two's complement among so many numbers (256 ^ width): one from the middle on stands for itself less all of them
unfoldable pub signed_of : ℕ → ℕ → ℤ
signed_of all n = cond (ltb (n * 2) all) (pos n) (negsuc (all - suc n))

-- and back
unfoldable pub unsigned_of : ℕ → ℤ → ℕ
unsigned_of all (pos n) = n
unsigned_of all (negsuc n) = all - suc n
