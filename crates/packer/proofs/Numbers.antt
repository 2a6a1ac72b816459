-- Numbers at a place: in more bytes, in the bytes up to their end alone, and counted from a place further on.
use mathlib.Core.Path.{◌≡◌, refl, sym, ap, ap₂, ◌∙◌}
use mathlib.Core.List.{List, [], ◌∷◌, ◌++◌}
use Prim.Native.Nat.{ℕ, zero, suc, ◌+◌, ◌*◌, ◌≤◌}
use native.Mathlib.Omega.{arith}
use native.Mathlib.Nat.{add_assoc}
use lib.ListN.{length, get_or, take, drop, get_or-append}
use lib.Seq.{get_or-take, get_or-drop}
use Rattle.packer.specs.Numbers.{be_at, total, numbers_at}

-- one number, of bytes that are read alike
number-alike : (s t : List ℕ) (at to width : ℕ) → ((k : ℕ) → suc k ≤ width → get_or s (at + k) 0 ≡ get_or t (to + k) 0) → be_at s at width ≡ be_at t to width
unfolding be_at
number-alike s t at to zero same = refl
number-alike s t at to (suc width) same =
    ap₂ (λ (high low : ℕ). high * 256 + low) (number-alike s t at to width (λ k below. same k (omega arith))) (same width (omega arith))

pub number-prefix : (s t : List ℕ) (at width : ℕ) → at + width ≤ length s → be_at (s ++ t) at width ≡ be_at s at width
number-prefix s t at width h = number-alike (s ++ t) s at at width (λ k below. get_or-append s t 0 (at + k) (omega arith))

pub number-own : (width : ℕ) (s : List ℕ) (at end : ℕ) → at + width ≤ end → be_at (take end s) at width ≡ be_at s at width
number-own width s at end before = number-alike (take end s) s at at width (λ k below. get_or-take end s (at + k) 0 (omega arith))

pub number-drop : (s : List ℕ) (n at width : ℕ) → be_at (drop n s) at width ≡ be_at s (n + at) width
number-drop s n at width = number-alike (drop n s) s at (n + at) width (λ k below. rw (get_or-drop n s (at + k) 0, add_assoc))

-- numbers one after the other
pub numbers-length : (widths s : List ℕ) (at : ℕ) → length (numbers_at widths s at) ≡ length widths
unfolding numbers_at
numbers-length [] s at = refl
numbers-length (width ∷ widths) s at = ap suc (numbers-length widths s (at + width))

pub numbers-own : (widths s : List ℕ) (at end : ℕ) → at + total widths ≤ end → numbers_at widths (take end s) at ≡ numbers_at widths s at
unfolding numbers_at total
numbers-own [] s at end before = refl
numbers-own (width ∷ widths) s at end before =
    ap₂ (λ (n : ℕ) (rest : List ℕ). n ∷ rest) (number-own width s at end (omega arith)) (numbers-own widths s (at + width) end (omega arith))

pub numbers-drop : (widths s : List ℕ) (n at : ℕ) → numbers_at widths (drop n s) at ≡ numbers_at widths s (n + at)
unfolding numbers_at
numbers-drop [] s n at = refl
numbers-drop (width ∷ widths) s n at =
    ap₂ (λ (m : ℕ) (rest : List ℕ). m ∷ rest) (number-drop s n at width) (numbers-drop widths s n (at + width) ∙ ap (numbers_at widths s) (sym (add_assoc n at width)))
