-- A value of each form as a number, and back.
use mathlib.Core.Bool.{Bool, true, false, false≢true, ◌&&◌, cond}
use mathlib.Core.Path.{◌≡◌, refl}
use mathlib.Core.List.{List, [], ◌∷◌, ◌++◌}
use Prim.Native.Nat.{ℕ, zero, suc, ◌+◌, ◌-◌, ◌*◌, ◌/◌, ◌%◌, ◌^◌, ◌≤◌, ◌<◌}
use native.Mathlib.Omega.{arith}
use lib.Dec.{eqb, leb, ltb}
use lib.IntN.{ℤ, pos, negsuc}
use lib.ListN.{get_or, drop}
use lib.Seq.{get_or-drop}
use lib.Signed.{mag}
use borrow.Author.Tests.{lt-ltb, le-ltb, ltb-true, ltb-false, le-leb, leb-true}
use Rattle.packer.specs.Numbers.{be_at, big_endian, signed_of, unsigned_of}
use Rattle.packer.specs.Nearness.{Bytes}
use Rattle.raw_command.specs.Commands.{Form, bare, flag, flags, half, word, signed, Value, flag_byte, number_of, width_of, most_of}
use Rattle.raw_command.specs.Reading.{value_of, at_most}
use Rattle.raw_command.specs.Laws.{Fits}

-- ---- a signed number of 32 bits

signed_back : (z : ℤ) → mag z < 2 ^ 31 → signed_of (256 ^ 4) (unsigned_of (256 ^ 4) z) ≡ z
unfolding signed_of unsigned_of
signed_back (pos n) fits = rw (lt-ltb (n * 2) (256 ^ 4) (omega arith))
signed_back (negsuc n) fits =
    let same : 256 ^ 4 - suc (256 ^ 4 - suc n) ≡ n = omega arith in
    rw (le-ltb ((256 ^ 4 - suc n) * 2) (256 ^ 4) (omega arith), same)

signed-number : (n : ℕ) → n < 256 ^ 4 → (mag (signed_of (256 ^ 4) n) < 2 ^ 31) × (unsigned_of (256 ^ 4) (signed_of (256 ^ 4) n) ≡ n)
unfolding signed_of unsigned_of
signed-number n fits = go (ltb (n * 2) (256 ^ 4)) refl
  where
    go : (low : Bool) → ltb (n * 2) (256 ^ 4) ≡ low
        → (mag (cond low (pos n) (negsuc (256 ^ 4 - suc n))) < 2 ^ 31) × (unsigned_of (256 ^ 4) (cond low (pos n) (negsuc (256 ^ 4 - suc n))) ≡ n)
    go true e = let below = ltb-true (n * 2) (256 ^ 4) e in (omega arith, refl)
    go false e = let above = ltb-false (n * 2) (256 ^ 4) e in (omega arith, omega arith)

unsigned-below : (z : ℤ) → mag z < 2 ^ 31 → unsigned_of (256 ^ 4) z < 256 ^ 4
unfolding unsigned_of
unsigned-below (pos n) fits = omega arith
unsigned-below (negsuc n) fits = omega arith

-- ---- flags

flag-most : (set : Bool) → flag_byte set ≤ 1
flag-most true = omega arith
flag-most false = omega arith

flag-back : (n : ℕ) → n ≤ 1 → flag_byte (eqb n 1) ≡ n
flag-back zero most = refl
flag-back (suc zero) most = refl
flag-back (suc (suc n)) most = absurd (omega arith)

flags-back : (first second : Bool) → value_of flags (flag_byte first * 256 + flag_byte second) ≡ (first, second)
flags-back true true = refl
flags-back true false = refl
flags-back false true = refl
flags-back false false = refl

-- ---- bytes none of which is above `most`

pub each-most : (most : ℕ) (bytes : List ℕ) (k : ℕ) → at_most most bytes ≡ true → get_or bytes k 0 ≤ most
unfolding at_most
each-most most [] k e = omega arith
each-most most (byte ∷ bytes) k e = go (leb byte most) refl (at_most most bytes) refl (λ j. each-most most bytes j) k e
  where
    go : (first : Bool) → leb byte most ≡ first → (rest : Bool) → at_most most bytes ≡ rest → ((j : ℕ) → at_most most bytes ≡ true → get_or bytes j 0 ≤ most)
        → (k : ℕ) → (first && rest) ≡ true → get_or (byte ∷ bytes) k 0 ≤ most
    go true f true r on zero e = leb-true byte most f
    go true f true r on (suc k) e = on k r
    go true f false r on k e = absurd (false≢true e)
    go false f rest r on k e = absurd (false≢true e)

one_more : (most : ℕ) (bytes : List ℕ) (byte : ℕ) → at_most most bytes ≡ true → byte ≤ most → at_most most (bytes ++ (byte ∷ [])) ≡ true
unfolding at_most
one_more most [] byte e under = rw (le-leb byte most under)
one_more most (first ∷ bytes) byte e under = go (leb first most) (at_most most bytes) refl (λ all. one_more most bytes byte all under) e
  where
    go : (here : Bool) (rest : Bool) → at_most most bytes ≡ rest → (at_most most bytes ≡ true → at_most most (bytes ++ (byte ∷ [])) ≡ true)
        → (here && rest) ≡ true → (here && at_most most (bytes ++ (byte ∷ []))) ≡ true
    go true true r on e = on r
    go true false r on e = absurd (false≢true e)
    go false rest r on e = absurd (false≢true e)

-- as no digit is above 255
digits-allowed : (width n : ℕ) → at_most 255 (big_endian width n) ≡ true
unfolding big_endian at_most
digits-allowed zero n = refl
digits-allowed (suc width) n = one_more 255 (big_endian width (n / 256)) (n % 256) (digits-allowed width (n / 256)) (omega arith)

-- ---- every form

-- the bytes are enough for the number
pub number-below : (form : Form) (value : Value form) → Fits form value → number_of form value < 256 ^ width_of form
number-below bare none fits = omega arith
number-below flag set fits = omega (arith, flag-most set)
number-below flags (first, second) fits = omega (arith, flag-most first, flag-most second)
number-below half n fits = omega arith
number-below word n fits = omega arith
number-below signed z fits = unsigned-below z fits

-- a value as a number is read as the value
pub value-back : (form : Form) (value : Value form) → Fits form value → value_of form (number_of form value) ≡ value
value-back bare none fits = refl
value-back flag true fits = refl
value-back flag false fits = refl
value-back flags (first, second) fits = flags-back first second
value-back half n fits = refl
value-back word n fits = refl
value-back signed z fits = signed_back z fits

-- and none of its bytes is above what its form allows
pub value-allowed : (form : Form) (value : Value form) → at_most (most_of form) (big_endian (width_of form) (number_of form value)) ≡ true
unfolding big_endian at_most
value-allowed bare none = refl
value-allowed flag true = refl
value-allowed flag false = refl
value-allowed flags (true, true) = refl
value-allowed flags (true, false) = refl
value-allowed flags (false, true) = refl
value-allowed flags (false, false) = refl
value-allowed half n = digits-allowed 2 n
value-allowed word n = digits-allowed 4 n
value-allowed signed z = digits-allowed 4 (unsigned_of (256 ^ 4) z)

-- ---- the bytes behind an id

module _ (bytes : List ℕ) where
  -- one of them is not above what its form allows
  allowed_at : (most k : ℕ) → at_most most (drop 1 bytes) ≡ true → get_or bytes (1 + k) 0 ≤ most
  allowed_at most k allowed = rw (← get_or-drop 1 bytes k 0) (each-most most (drop 1 bytes) k allowed)

  -- their number is that of the value that is read of it, and the value fits
  pub number-back : (form : Form) → Bytes bytes → at_most (most_of form) (drop 1 bytes) ≡ true
      → Fits form (value_of form (be_at bytes 1 (width_of form))) × (number_of form (value_of form (be_at bytes 1 (width_of form))) ≡ be_at bytes 1 (width_of form))
  unfolding be_at
  number-back bare b allowed = (tt, refl)
  number-back flag b allowed = (tt, flag-back _ (omega (arith, allowed_at 1 0 allowed)))
  number-back flags b allowed =
      let first = allowed_at 1 0 allowed in
      let second = allowed_at 1 1 allowed in
      let n = be_at bytes 1 2 in
      (tt, rw (flag-back (n / 256) (omega arith), flag-back (n % 256) (omega arith)) (omega arith))
  number-back half b allowed = (omega (arith, b 1, b 2), refl)
  number-back word b allowed = (omega (arith, b 1, b 2, b 3, b 4), refl)
  number-back signed b allowed = signed-number (be_at bytes 1 4) (omega (arith, b 1, b 2, b 3, b 4))
