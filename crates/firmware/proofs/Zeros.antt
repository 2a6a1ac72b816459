-- What `Default` of an array of bytes gives: zeros.
use mathlib.Core.Path.{◌≡◌, sym, ◌∙◌}
use mathlib.Core.List.{List}
use Prim.Native.Nat.{ℕ, ◌<◌}
use native.Mathlib.Omega.{arith}
use lib.ListN.{replicate}
use Rattle.std.specs.Array.{AllOfLen}
use Rattle.std.proofs.lemmas.List.{length-replicate, get_or-replicate}
use Rattle.std.proofs.lemmas.Grind.{same_number_lists}
use Rattle.format.specs.Format.{name_room, hash_room}

zeros-made : (n : ℕ) (xs : List ℕ) → AllOfLen (λ x. x ≡ 0) xs n → xs ≡ replicate n 0
zeros-made n xs made =
    same_number_lists xs (replicate n 0) (made.long ∙ sym (length-replicate n 0)) (λ k inside.
    let below : k < n = omega (arith, inside, made.long) in
    made.at k 0 below ∙ sym (get_or-replicate n k 0 0 below))

-- at each of the lengths here, where the zeros are computed
pub name-zeros : (xs : List ℕ) → AllOfLen (λ x. x ≡ 0) xs name_room → xs ≡ replicate name_room 0
name-zeros = zeros-made name_room

pub uuid-zeros : (xs : List ℕ) → AllOfLen (λ x. x ≡ 0) xs 12 → xs ≡ replicate 12 0
uuid-zeros = zeros-made 12

pub hash-zeros : (xs : List ℕ) → AllOfLen (λ x. x ≡ 0) xs hash_room → xs ≡ replicate hash_room 0
hash-zeros = zeros-made hash_room
