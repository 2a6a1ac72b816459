-- Numbers of any widths, read from bytes and written as bytes.
use mathlib.Core.Path.{◌≡◌, refl, ap, ap₂}
use mathlib.Core.List.{List, [], ◌∷◌, ◌++◌}
use Prim.Native.Nat.{ℕ, zero, suc, ◌+◌, ◌*◌, ◌/◌, ◌%◌, ◌^◌, ◌≤◌, ◌<◌}
use native.Mathlib.Omega.{arith}
use native.Mathlib.Nat.{add-zero, add-suc, add_assoc}
use lib.ListN.{length, get_or, length-append}
use Rattle.packer.specs.Numbers.{be_at, big_endian, total, numbers_at, digits, Below}
use Rattle.packer.specs.Nearness.{Bytes}
use Rattle.packer.specs.Standing.{Stands}
use Rattle.packer.proofs.Standing.{nothing, one, the_one, joined, first, second}
use Rattle.packer.proofs.Writes.{digits-length}
use Rattle.packer.proofs.Nearness.{number_small}

-- ---- one number

-- the bytes of the number at a place are those that stand there
pub number-here : (s : List ℕ) (at w : ℕ) → Bytes s → at + w ≤ length s → Stands (big_endian w (be_at s at w)) s at (at + w)
unfolding be_at big_endian
number-here s at zero b h = rw add-zero (nothing s at (omega arith))
number-here s at (suc w) b h =
    let low = b (at + w) in
    let q : (be_at s at w * 256 + get_or s (at + w) 0) / 256 ≡ be_at s at w = omega arith in
    let r : (be_at s at w * 256 + get_or s (at + w) 0) % 256 ≡ get_or s (at + w) 0 = omega arith in
    rw (q, r, add-suc) (joined (number-here s at w b (omega arith)) (one s (at + w) (omega arith)))

-- where the bytes of a number stand, that number is read
pub number-back : (w n : ℕ) {s : List ℕ} {at end : ℕ} → n < 256 ^ w → Stands (big_endian w n) s at end → be_at s at w ≡ n
unfolding be_at big_endian
number-back zero n f p = omega arith
number-back (suc w) n {s} {at} {end} f p =
    let high = number-back w (n / 256) (omega arith) (first (big_endian w (n / 256)) (n % 256 ∷ []) p) in
    let low : get_or s (at + w) 0 ≡ n % 256 = the_one (rw (digits-length w (n / 256)) at (second (big_endian w (n / 256)) (n % 256 ∷ []) p)) in
    omega arith

-- ---- numbers, one after the other

-- those that are read have bytes enough
pub numbers-below : (ws s : List ℕ) (at : ℕ) → Bytes s → Below ws (numbers_at ws s at)
unfolding numbers_at
numbers-below [] s at b = tt
numbers-below (w ∷ ws) s at b = (omega (arith, number_small s b at w), numbers-below ws s (at + w) b)

-- and their bytes are those that stand there
pub numbers-here : (ws s : List ℕ) (at : ℕ) → Bytes s → at + total ws ≤ length s → Stands (digits ws (numbers_at ws s at)) s at (at + total ws)
unfolding total numbers_at digits
numbers-here [] s at b h = rw add-zero (nothing s at (omega arith))
numbers-here (w ∷ ws) s at b h = rw (← add_assoc) (joined (number-here s at w b (omega arith)) (numbers-here ws s (at + w) b (omega arith)))

-- where the bytes of numbers stand, those numbers are read
pub numbers-back : (ws ns : List ℕ) {s : List ℕ} {at end : ℕ} → Below ws ns → Stands (digits ws ns) s at end → numbers_at ws s at ≡ ns
unfolding numbers_at digits
numbers-back [] [] f p = refl
numbers-back [] (n ∷ ns) f p = absurd f
numbers-back (w ∷ ws) [] f p = absurd f
numbers-back (w ∷ ws) (n ∷ ns) f p =
    ap₂ (λ (m : ℕ) (ms : List ℕ). m ∷ ms) (number-back w n f.0 (first (big_endian w n) (digits ws ns) p))
    (numbers-back ws ns f.1 (rw (digits-length w n) at (second (big_endian w n) (digits ws ns) p)))

-- their bytes are as many as the widths say, whatever the numbers are
pub digits-total : (ws ns : List ℕ) → length ws ≤ length ns → length (digits ws ns) ≡ total ws
unfolding total digits
digits-total [] ns enough = refl
digits-total (w ∷ ws) [] enough = absurd (omega arith)
digits-total (w ∷ ws) (n ∷ ns) enough =
    omega (arith, length-append (big_endian w n) (digits ws ns), digits-length w n, digits-total ws ns (omega arith))

-- there is a number for each width
pub below_length : (ws ns : List ℕ) → Below ws ns → length ns ≡ length ws
below_length [] [] f = refl
below_length [] (n ∷ ns) f = absurd f
below_length (w ∷ ws) [] f = absurd f
below_length (w ∷ ws) (n ∷ ns) f = ap suc (below_length ws ns f.1)

pub below_total : (ws ns : List ℕ) → Below ws ns → length (digits ws ns) ≡ total ws
below_total ws ns f = digits-total ws ns (omega (arith, below_length ws ns f))

-- numbers past the last width have no bytes
pub digits-front : (ws ns more : List ℕ) → length ws ≤ length ns → digits ws (ns ++ more) ≡ digits ws ns
unfolding digits
digits-front [] ns more enough = refl
digits-front (w ∷ ws) [] more enough = absurd (omega arith)
digits-front (w ∷ ws) (n ∷ ns) more enough = ap (λ (bytes : List ℕ). big_endian w n ++ bytes) (digits-front ws ns more (omega arith))
