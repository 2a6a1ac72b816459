-- A message in pieces. Its sum is what the register holds once its bytes have gone in one after the other, from 0, wherever the message is cut:
-- for a caller of `byte_in` whose bytes stand in no slice.
use mathlib.Core.Path.{◌≡◌, refl, sym, ap, ◌∙◌}
use mathlib.Core.List.{List, [], ◌∷◌, ◌++◌}
use Prim.Native.Nat.{ℕ}
use Rattle.checksum.specs.Xmodem.{checksum_of, byte_in_of, register_from, register_of}
use Rattle.checksum.proofs.Remainder.{register-is-remainder}

-- a piece after a piece is both together
pub pieces : (register : ℕ) (xs ys : List ℕ) → register_from (register_from register xs) ys ≡ register_from register (xs ++ ys)
unfolding register_from
pieces register [] ys = refl
pieces register (byte ∷ xs) ys = pieces (byte_in_of register byte) xs ys

-- before the first byte
pub sum-none : checksum_of [] ≡ 0
unfolding register_of register_from
sum-none = sym (register-is-remainder [])

-- the sum so far is the register that the rest goes into
pub sum_more : (xs ys : List ℕ) → checksum_of (xs ++ ys) ≡ register_from (checksum_of xs) ys
unfolding register_of
sum_more xs ys =
    sym (register-is-remainder (xs ++ ys)) ∙ sym (pieces 0 xs ys) ∙ ap (λ (r : ℕ). register_from r ys) (register-is-remainder xs)

-- and a byte more is `byte_in`
pub sum-byte : (xs : List ℕ) (byte : ℕ) → checksum_of (xs ++ (byte ∷ [])) ≡ byte_in_of (checksum_of xs) byte
unfolding register_from
sum-byte xs byte = sum_more xs (byte ∷ [])
