-- What a name holds: what a copy to the front of zeros leaves.
use mathlib.Core.Path.{◌≡◌}
use mathlib.Core.List.{List, ◌++◌}
use Prim.Native.Nat.{ℕ, zero, suc, ◌-◌, ◌≤◌}
use native.Mathlib.Omega.{arith}
use lib.ListN.{length, take, drop, replicate, length-drop}
use lib.Seq.{length-take-le}
use Rattle.refusals.specs.Refusals.{Answer, ok}
use Rattle.names.specs.Names.{nul_within, held_bytes, name_at}
use Rattle.names.proofs.Places.{Ends}

-- fewer zeros
zeros-left : (n k : ℕ) → drop {A = ℕ} k (replicate n 0) ≡ replicate (n - k) 0
zeros-left n zero = let all : n - 0 ≡ n = omega arith in rw all
zeros-left zero (suc k) = let none_left : 0 - suc k ≡ 0 = omega arith in rw none_left
zeros-left (suc n) (suc k) = let less : suc n - suc k ≡ n - k = omega arith in rw less (zeros-left n k)

-- the name that an answer and the bytes held with it make
pub name_of
    : (room : ℕ) (bytes : List ℕ) (place : ℕ) (answer : Answer ℕ) (held : List ℕ) → answer ≡ nul_within room (drop place bytes) place
    → held ≡ held_bytes room (drop place bytes) place answer → record { answer = answer; bytes = held } ≡ name_at room bytes place
unfolding name_at
name_of room bytes place answer held e h = rw (h, e)

-- what a copy of the bytes from a place up to the next leaves of the zeros
pub copied-held
    : (room : ℕ) (bytes : List ℕ) (place next : ℕ) → Ends room (length bytes) place next
    → let part = take (next - place) (drop place bytes) in part ++ drop (length part) (replicate room 0) ≡ held_bytes room (drop place bytes) place (ok next)
unfolding held_bytes
copied-held room bytes place next ends =
    let there : next - place ≤ length (drop place bytes) = simp length-drop (omega arith) in
    rw (length-take-le (next - place) (drop place bytes) there, zeros-left room (next - place))
