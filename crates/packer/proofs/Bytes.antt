-- Numbers of a byte each are the bytes themselves, zeros past the end.
use mathlib.Core.Path.{◌≡◌, refl, sym, ap, ◌∙◌}
use mathlib.Core.List.{List, [], ◌∷◌, ◌++◌}
use Prim.Native.Nat.{ℕ, zero, suc, ◌+◌, ◌-◌, ◌<◌}
use native.Mathlib.Omega.{arith}
use native.Mathlib.Nat.{zero-add, add-zero}
use lib.ListN.{length, get_or, take, replicate}
use Rattle.packer.specs.Numbers.{be_at, numbers_at}
use Rattle.packer.proofs.Numbers.{numbers-drop}

-- the byte k of them
pub byte_of : (n : ℕ) (s : List ℕ) (at k : ℕ) → k < n → get_or (numbers_at (replicate n 1) s at) k 0 ≡ get_or s (at + k) 0
unfolding numbers_at be_at
byte_of zero s at k inside = absurd (omega arith)
byte_of (suc n) s at zero inside = omega arith
byte_of (suc n) s at (suc k) inside = byte_of n s (at + 1) k (omega arith) ∙ ap (λ (place : ℕ). get_or s place 0) (omega arith)

-- one number
pub number_of : (width : ℕ) (s : List ℕ) (at : ℕ) → get_or (numbers_at (width ∷ []) s at) 0 0 ≡ be_at s at width
unfolding numbers_at
number_of width s at = refl

-- the first two
pub two_bytes : (s : List ℕ) (at : ℕ) → numbers_at (replicate 2 1) s at ≡ get_or s at 0 ∷ get_or s (at + 1) 0 ∷ []
unfolding numbers_at be_at
two_bytes s at = rw (zero-add (get_or s (at + 0) 0), zero-add (get_or s (at + 1 + 0) 0), add-zero at, add-zero (at + 1))

no_bytes : (n at : ℕ) → numbers_at (replicate n 1) [] at ≡ replicate n 0
unfolding numbers_at be_at
no_bytes zero at = refl
no_bytes (suc n) at = ap (λ (l : List ℕ). 0 ∷ l) (no_bytes n (at + 1))

-- all of them
pub front_bytes : (n : ℕ) (s : List ℕ) → numbers_at (replicate n 1) s 0 ≡ take n s ++ replicate (n - length s) 0
unfolding numbers_at be_at
front_bytes zero s = let none : 0 - length s ≡ 0 = omega arith in rw none
front_bytes (suc n) [] = let all : suc n - 0 ≡ suc n = omega arith in rw all (no_bytes (suc n) 0)
front_bytes (suc n) (x ∷ s) =
    let less : suc n - suc (length s) ≡ n - length s = omega arith in
    rw (less, zero-add) (ap (λ (l : List ℕ). x ∷ l) (sym (numbers-drop (replicate n 1) (x ∷ s) 1 0) ∙ front_bytes n s))
