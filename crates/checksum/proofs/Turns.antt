-- A turn of each walk: what is left to do, from the register as it is, gives the answer; or what the bytes so far have made of it.
use mathlib.Core.Path.{◌≡◌, ap, ◌∙◌}
use mathlib.Core.List.{List, [], ◌∷◌, ◌++◌}
use Prim.Native.Nat.{ℕ, suc, ◌+◌, ◌-◌, ◌<◌}
use native.Mathlib.Omega.{arith}
use Rattle.checksum.specs.Xmodem.{step_of, steps_of, byte_in_of, register_from}
use Rattle.checksum.proofs.Pieces.{pieces}

-- one of eight steps
pub step-more : (done register next answer : ℕ) → done < 8 → next ≡ step_of register → steps_of (8 - done) register ≡ answer
    → steps_of (8 - (done + 1)) next ≡ answer
unfolding steps_of
step-more done register next answer h e inv =
    let one : 8 - done ≡ suc (8 - (done + 1)) = omega arith in rw e (rw one at inv)

-- a byte more has gone in
pub byte_more : (bytes : List ℕ) (register byte next : ℕ) → register ≡ register_from 0 bytes → next ≡ byte_in_of register byte
    → next ≡ register_from 0 (bytes ++ (byte ∷ []))
unfolding register_from
byte_more bytes register byte next inv e = e ∙ ap (λ (r : ℕ). byte_in_of r byte) inv ∙ pieces 0 bytes (byte ∷ [])
