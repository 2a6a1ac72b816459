-- Two's complement, as the machine works it out.
use mathlib.Core.Path.{◌≡◌, refl, ◌∙◌}
use mathlib.Core.Bool.{Bool, true, false, not, cond}
use Prim.Native.Nat.{ℕ, suc, ◌-◌, ◌*◌, ◌≤◌, ◌<◌, ◌^◌}
use native.Mathlib.Omega.{arith}
use lib.Dec.{T, ltb, ltb→lt, nltb→le}
use lib.IntN.{ℤ, pos, negsuc}
use lib.Signed.{mag}
use borrow.Author.Tests.{lt-ltb, le-ltb}
use mir.Val.{SFits, to_z, of_z, bits, sel}
use mir.Syntax.{Width, w16, w32}
use mir.ValLaws.{to_z-of_z}
use Rattle.packer.specs.Numbers.{signed_of, unsigned_of}

-- a signed number is at most as far from zero as the weight of its sign
pub mag-below-half : (half n : ℕ) → n < half * 2 → mag (signed_of (half * 2) n) < half
unfolding signed_of
mag-below-half half n h = go (ltb (n * 2) (half * 2)) (ltb→lt (n * 2) (half * 2)) (nltb→le (n * 2) (half * 2))
  where
    go : (b : Bool) → (T b → n * 2 < half * 2) → (T (not b) → half * 2 ≤ n * 2) → mag (cond b (pos n) (negsuc (half * 2 - suc n))) < half
    go true k l = let m : n * 2 < half * 2 = k tt in omega arith
    go false k l = let m : half * 2 ≤ n * 2 = l tt in omega arith

-- std's signed reading, and its bits of a signed number, are those of the specs
pub signed-reading : (half n : ℕ) → sel (ltb n half) (pos n) (negsuc (half * 2 - suc n)) ≡ signed_of (half * 2) n
unfolding signed_of
signed-reading half n = go (ltb n half) (ltb→lt n half) (nltb→le n half)
  where
    go : (b : Bool) → (T b → n < half) → (T (not b) → half ≤ n)
        → sel b (pos n) (negsuc (half * 2 - suc n)) ≡ cond (ltb (n * 2) (half * 2)) (pos n) (negsuc (half * 2 - suc n))
    go true k l = let m : n < half = k tt in rw (lt-ltb (n * 2) (half * 2) (omega arith))
    go false k l = let m : half ≤ n = l tt in rw (le-ltb (n * 2) (half * 2) (omega arith))

pub unsigned-bits : (w : Width) (v : ℤ) → of_z w v ≡ unsigned_of (2 ^ bits w) v
unfolding unsigned_of
unsigned-bits w (pos n) = refl
unsigned-bits w (negsuc n) = refl

-- a number that came by a call, as an i32 and as an i16
pub called-i32 : (z v : ℤ) → mag z < 2 ^ 31 → z ≡ v → to_z w32 (of_z w32 z) ≡ v
called-i32 z v h e = to_z-of_z w32 z (record { sfits = h }) ∙ e

module _ (z : ℤ) (n : ℕ) (h : mag z < 2 ^ 31) (k : n < 65536) (e : z ≡ signed_of 65536 n) where
  pub fits-i16 : SFits w16 (to_z w32 (of_z w32 z))
  fits-i16 = rw (called-i32 z (signed_of 65536 n) h e) (record { sfits = mag-below-half 32768 n k })

  pub called-i16 : to_z w16 (of_z w16 (to_z w32 (of_z w32 z))) ≡ signed_of 65536 n
  called-i16 = rw (called-i32 z (signed_of 65536 n) h e) (to_z-of_z w16 (signed_of 65536 n) (record { sfits = mag-below-half 32768 n k }))

-- ---- an i16 as an i32
module _ (v : ℤ) (f : SFits w16 v) where
  pub widened : to_z w32 (of_z w32 (to_z w16 (of_z w16 v))) ≡ v
  widened = rw (to_z-of_z w16 v f) (to_z-of_z w32 v (record { sfits = omega (arith, f.sfits) }))

-- ---- a signed number, as its bits and back

pub signed_back : (half : ℕ) (z : ℤ) → mag z < half → signed_of (half * 2) (unsigned_of (half * 2) z) ≡ z
unfolding signed_of unsigned_of
signed_back half (pos n) fits = rw (lt-ltb (n * 2) (half * 2) (omega arith))
signed_back half (negsuc n) fits =
    let same : half * 2 - suc (half * 2 - suc n) ≡ n = omega arith in
    rw (le-ltb ((half * 2 - suc n) * 2) (half * 2) (omega arith), same)

pub unsigned_back : (half n : ℕ) → n < half * 2 → unsigned_of (half * 2) (signed_of (half * 2) n) ≡ n
unfolding signed_of unsigned_of
unsigned_back half n fits = go (ltb (n * 2) (half * 2)) refl
  where
    go : (low : Bool) → ltb (n * 2) (half * 2) ≡ low → unsigned_of (half * 2) (cond low (pos n) (negsuc (half * 2 - suc n))) ≡ n
    go true e = refl
    go false e = omega arith

pub unsigned-below : (half : ℕ) (z : ℤ) → mag z < half → unsigned_of (half * 2) z < half * 2
unfolding unsigned_of
unsigned-below half (pos n) fits = omega arith
unsigned-below half (negsuc n) fits = omega arith
