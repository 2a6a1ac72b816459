-- The bits of a mask, document 01, "Reply fields": "bits 0 to 21", "bits 0 to 10".
use Rattle.std.specs.Prelude.{List, [], ◌∷◌, ◌++◌, ℕ, zero, suc, ◌^◌}

-- so many bits, from bit 0 on: 1, 2, 4, ..
abbrev pub powers : ℕ → List ℕ
powers zero = []
powers (suc bits) = powers bits ++ (2 ^ bits ∷ [])
