-- The widths of a table under a mask: never more bytes than all the fields have; an absent field is 0; where a field's bytes begin.
use mathlib.Core.Path.{◌≡◌, refl, ap}
use mathlib.Core.Bool.{Bool, true, false, cond}
use mathlib.Core.List.{List, [], ◌∷◌, ◌++◌}
use Prim.Native.Nat.{ℕ, zero, suc, ◌+◌, ◌≤◌, ◌<◌}
use native.Mathlib.Omega.{arith}
use lib.ListN.{length, get_or, take, replicate}
use Rattle.packer.specs.Numbers.{be_at, total, numbers_at}
use Rattle.tables.specs.Rows.{MaskBits}
use Rattle.tables.specs.Tables.{width_of, Field, has_bit, takes, widths, most}

pub cond-most : (p : Bool) (n : ℕ) → cond p n 0 ≤ n
cond-most true n = omega arith
cond-most false n = omega arith

pub widths-most : (table : List Field) (mask : ℕ) → total (widths mask table) ≤ most table
unfolding total widths takes most
widths-most [] mask = omega arith
widths-most (f ∷ table) mask = omega (arith, cond-most (has_bit mask f.bit) (width_of f.coding), widths-most table mask)

pub widths-length : (table : List Field) (mask : ℕ) → length (widths mask table) ≡ length table
unfolding widths
widths-length [] mask = refl
widths-length (f ∷ table) mask = ap suc (widths-length table mask)

module _ (mask : ℕ) (s : List ℕ) (other : Field) where
  -- a field's bytes follow those of the fields before it
  pub raw_at
      : (table : List Field) (at k : ℕ) → k < length table
      → get_or (numbers_at (widths mask table) s at) k 0 ≡ be_at s (at + total (widths mask (take k table))) (takes mask (get_or table k other))
  unfolding numbers_at total widths
  raw_at [] at k inside = absurd (omega arith)
  raw_at (f ∷ table) at zero inside = let here : at + 0 ≡ at = omega arith in rw here
  raw_at (f ∷ table) at (suc k) inside =
      let rest = total (widths mask (take k table)) in
      let on : at + (takes mask f + rest) ≡ at + takes mask f + rest = omega arith in
      rw on (raw_at table (at + takes mask f) k (omega arith))

  -- one that the mask has
  pub raw-present
      : (table : List Field) (at k : ℕ) → k < length table → has_bit mask (get_or table k other).bit ≡ true
      → get_or (numbers_at (widths mask table) s at) k 0 ≡ be_at s (at + total (widths mask (take k table))) (width_of (get_or table k other).coding)
  unfolding takes
  raw-present table at k inside has = rw (raw_at table at k inside, has)

  -- one that it lacks: "An absent field is zero"
  pub raw-absent : (table : List Field) (at k : ℕ) → has_bit mask (get_or table k other).bit ≡ false → get_or (numbers_at (widths mask table) s at) k 0 ≡ 0
  unfolding numbers_at widths takes be_at
  raw-absent [] at k lacks = refl
  raw-absent (f ∷ table) at zero lacks = rw lacks
  raw-absent (f ∷ table) at (suc k) lacks = raw-absent table (at + takes mask f) k lacks

-- ---- zeros behind the numbers of a table

zeros-at : (n k : ℕ) → get_or {A = ℕ} (replicate n 0) k 0 ≡ 0
zeros-at zero k = refl
zeros-at (suc n) zero = refl
zeros-at (suc n) (suc k) = zeros-at n k

pub zeros-behind : (raws : List ℕ) (n k : ℕ) → get_or (raws ++ replicate n 0) k 0 ≡ get_or raws k 0
zeros-behind [] n k = zeros-at n k
zeros-behind (raw ∷ raws) n zero = refl
zeros-behind (raw ∷ raws) n (suc k) = zeros-behind raws n k

pub mask-bits : MaskBits
mask-bits = record { values = tt {0}; setup = tt {0}; stats = tt {0} }
