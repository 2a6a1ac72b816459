-- The payload part of a slice, by how much of it is there.
use mathlib.Core.Path.{◌≡◌, sym, ap, ◌∙◌}
use mathlib.Core.List.{List, []}
use Prim.Native.Nat.{ℕ, ◌-◌, ◌<◌, min}
use native.Mathlib.Omega.{arith}
use lib.ListN.{length, take, drop, length-drop, drop_of_length-le}
use lib.Seq.{take-nil, take_all}
use Rattle.std.proofs.lemmas.List.{take_min}
use Rattle.frame.specs.Opening.{payload_part}

-- nothing of it, where there is no length byte
pub part-none : (s : List ℕ) (n : ℕ) → length s < 2 → [] ≡ payload_part n s
unfolding payload_part
part-none s n short = sym (ap (take n) (drop_of_length-le s {i = 2} (omega arith)) ∙ take-nil n)

-- as much as the length byte says, or all that follows it
pub part-there
    : (s : List ℕ) (n : ℕ)
    → take (min n (length (take (length s - 2) (drop 2 s)))) (take (length s - 2) (drop 2 s)) ≡ payload_part n s
unfolding payload_part
part-there s n =
    let rest : take (length s - 2) (drop 2 s) ≡ drop 2 s = take_all (length s - 2) (drop 2 s) (simp length-drop (omega arith)) in
    take_min n (take (length s - 2) (drop 2 s)) ∙ ap (take n) rest
