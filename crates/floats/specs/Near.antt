-- How near a reading is to the number it stands for, document 01, "Numbers", over whole numbers and without fractions.
use Rattle.std.specs.Prelude.{◌≡◌, ℕ, suc, ◌+◌, ◌-◌, ◌*◌, ◌^◌, ◌≤◌, Bool, true, false, ℤ, pos, negsuc, Float}
use Rattle.std.specs.Float.{nan, inf, fin, binary32}
use Rattle.std.specs.Float.Ieee.{of_int, up, down}
use Rattle.floats.specs.Numbers.{over_scale}

-- how far a and b are apart: one of the two differences is cut off at 0
abbrev pub gap : ℕ → ℕ → ℕ
gap a b = (a - b) + (b - a)

-- |r| of a whole number, and whether it is negative
abbrev pub size : ℤ → ℕ
size (pos n) = n
size (negsuc n) = suc n

abbrev pub negative : ℤ → Bool
negative (pos n) = false
negative (negsuc n) = true

-- x is finite, has the sign s, and its magnitude is at most the p-th part of a / c away from a / c.
-- The magnitude of `fin t m e` is m * up e / down e, so this is | m * up e / down e - a / c | ≤ (a / c) / p. Multiplied out, by c, down e and p,
-- all above 0, it is | m * up e * c - a * down e | * p ≤ a * down e.
abbrev pub Near : Float → Bool → ℕ → ℕ → ℕ → Type 0
Near nan s a c p = ⊥
Near (inf t) s a c p = ⊥
Near (fin t m e) s a c p = (t ≡ s) × (gap (m * up e * c) (a * down e) * p ≤ a * down e)

-- "divided by 2^22": how small a part of |r|/s
abbrev pub nearness : ℕ
nearness = 2 ^ 22

-- "for raw r and scale s the reading is within |r|/s divided by 2^22 of r/s"
abbrev pub ReadingNear : ℤ → ℕ → Type 0
ReadingNear raw scale = Near (over_scale raw (of_int binary32 (pos scale))) (negative raw) (size raw) scale nearness
