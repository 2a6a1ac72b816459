-- The scales of the tables are those that the laws of a reading hold for: above 0, and at most 2 ^ 24.
use mathlib.Core.Path.{◌≡◌, refl}
use mathlib.Core.Bool.{Bool, true, ◌&&◌, and-eq-true_iff}
use mathlib.Core.List.{List, [], ◌∷◌}
use Prim.Native.Nat.{ℕ, zero, suc, ◌^◌, ◌≤◌, ◌<◌}
use lib.Dec.{ltb, leb}
use borrow.Author.Tests.{ltb-true, leb-true}
use Rattle.tables.specs.Tables.{Coding, h, w, i, u, b, fault_byte, F, Field}
use Rattle.tables.specs.Sorts.{table_of}
use Rattle.tables.specs.declared.Sort.{Sort}
use Rattle.tables.specs.declared.Sort.TheVariants.{Values, SetupValues, Stats}
use Rattle.telemetry.specs.Telemetry.{entry}

abbrev fits : ℕ → Bool
fits scale = ltb 0 scale && leb scale (2 ^ 24)

abbrev pub coding_fits : Coding → Bool
coding_fits (h scale) = fits scale
coding_fits (w scale) = fits scale
coding_fits i = true
coding_fits u = true
coding_fits b = true
coding_fits fault_byte = true
coding_fits F = true

module _ (scale : ℕ) (e : fits scale ≡ true) where
  pub positive : 0 < scale
  positive = ltb-true 0 scale ((and-eq-true_iff (ltb 0 scale) (leb scale (2 ^ 24))).0 e).0

  pub small : scale ≤ 2 ^ 24
  small = leb-true scale (2 ^ 24) ((and-eq-true_iff (ltb 0 scale) (leb scale (2 ^ 24))).0 e).1

-- ---- all of a table
abbrev all_fit : List Field → Bool
all_fit [] = true
all_fit (f ∷ table) = coding_fits f.coding && all_fit table

fit_at : (table : List Field) (k : ℕ) → all_fit table ≡ true → coding_fits (entry table k).coding ≡ true
fit_at [] k e = refl
fit_at (f ∷ table) zero e = ((and-eq-true_iff (coding_fits f.coding) (all_fit table)).0 e).0
fit_at (f ∷ table) (suc k) e = fit_at table k ((and-eq-true_iff (coding_fits f.coding) (all_fit table)).0 e).1

all-fit : (sort : Sort) → all_fit (table_of sort) ≡ true
all-fit Values = refl
all-fit SetupValues = refl
all-fit Stats = refl

pub coding-fits : (sort : Sort) (k : ℕ) → coding_fits (entry (table_of sort) k).coding ≡ true
coding-fits sort k = fit_at (table_of sort) k (all-fit sort)
