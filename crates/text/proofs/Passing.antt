-- Well-formed bytes, sequence by sequence: past the one at the front, at none, at the end.
use Rattle.std.specs.Prelude.{◌≡◌, ℕ, zero, suc, ◌<◌, true, false, List, [], ◌∷◌, length, drop}
use mathlib.Core.Path.{refl}
use mathlib.Core.Bool.{true≢false}
use native.Mathlib.Omega.{arith}
use lib.Dec.{eqb}
use lib.ListN.{length-drop}
use borrow.Author.Tests.{eqb-true, eqb-false}
use Rattle.text.specs.Utf8.{table, front_length, well_formed_after, well_formed}
use Rattle.text.proofs.Rows.{front-within}

-- to pass bytes of a sequence is to drop them
after-dropped : (more : ℕ) (bytes : List ℕ) → well_formed_after more bytes ≡ well_formed (drop more bytes)
unfolding well_formed_after well_formed
after-dropped zero bytes = refl
after-dropped (suc more) [] = refl
after-dropped (suc more) (byte ∷ bytes) = after-dropped more bytes

-- bytes with a sequence at the front are as well-formed as what follows it
pub past-sequence : (size : ℕ) (bytes : List ℕ) → front_length table bytes ≡ size → 0 < size → well_formed bytes ≡ well_formed (drop size bytes)
unfolding well_formed_after well_formed
past-sequence zero bytes e some = absurd (omega arith)
past-sequence (suc more) [] e some = refl
past-sequence (suc more) (byte ∷ bytes) e some = rw e (after-dropped more bytes)

-- bytes with no sequence at the front are not well-formed; there are some
pub no-sequence : (bytes : List ℕ) → eqb (length bytes) 0 ≡ false → front_length table bytes ≡ 0 → well_formed bytes ≡ false
unfolding well_formed_after well_formed
no-sequence [] some e = absurd (true≢false some)
no-sequence (byte ∷ bytes) some e = rw e

-- what follows a sequence is shorter
pub left-shorter : (bytes : List ℕ) → eqb (length bytes) 0 ≡ false → 0 < front_length table bytes → length (drop (front_length table bytes) bytes) < length bytes
left-shorter bytes some long = let z = eqb-false (length bytes) 0 some in simp length-drop (omega (arith, front-within table bytes))

-- no bytes are well-formed
pub none-formed : (bytes : List ℕ) → eqb (length bytes) 0 ≡ true → well_formed bytes ≡ true
unfolding well_formed_after well_formed
none-formed [] e = refl
none-formed (byte ∷ bytes) e = let z = eqb-true (length (byte ∷ bytes)) 0 e in absurd (omega arith)
