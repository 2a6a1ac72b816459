-- Bytes none of which is above a limit.
use mathlib.Core.Bool.{Bool, true, false, false≢true}
use mathlib.Core.Path.{◌≡◌, refl, sym}
use mathlib.Core.Logic.{◌↔◌}
use mathlib.Core.List.{List, [], ◌∷◌}
use Prim.Native.Nat.{ℕ, suc, ◌≤◌, ◌<◌}
use native.Mathlib.Omega.{arith}
use lib.ListN.{length, get_or}
use borrow.Author.Tests.{le-leb}
use Rattle.std.specs.Prelude.{IsTrue, EachIndex}
use Rattle.raw_command.specs.Reading.{at_most}
use Rattle.raw_command.proofs.Values.{each-most}

all-under : (most : ℕ) (bytes : List ℕ) → ((k : ℕ) → k < length bytes → get_or bytes k 0 ≤ most) → at_most most bytes ≡ true
unfolding at_most
all-under most [] each = refl
all-under most (byte ∷ bytes) each =
    rw (le-leb byte most (each 0 (omega arith))) (all-under most bytes (λ k below. each (suc k) (omega arith)))

-- a test of each byte is the test of all
pub limited : (most : ℕ) (bytes : List ℕ) (test : Bool) → IsTrue test ↔ EachIndex bytes (λ k. get_or bytes k 0 ≤ most) → test ≡ at_most most bytes
limited most bytes true is = sym (all-under most bytes (is.0 refl))
limited most bytes false is = not_limited (at_most most bytes) refl
  where
    not_limited : (all : Bool) → at_most most bytes ≡ all → false ≡ all
    not_limited true e = absurd (false≢true (is.1 (λ k below. each-most most bytes k e)))
    not_limited false e = refl
