-- The count of a good frame: "On success the count is n + 5".
use mathlib.Core.Path.{◌≡◌}
use mathlib.Core.List.{List}
use Prim.Native.Nat.{ℕ, ◌+◌, ◌≤◌}
use native.Mathlib.Omega.{arith}
use lib.ListN.{length, get_or, drop}
use Rattle.refusals.specs.Refusals.{ok}
use Rattle.judge.specs.Judge.{judge_of}
use Rattle.judge.proofs.Parts.{judge-frame}
use Rattle.layout.proofs.Replies.{reads-fields}

-- a count is n + 5 for the length byte n, at least 6, and no more than there is
pub judge-sized : (xs : List ℕ) (c : ℕ) → judge_of xs ≡ ok c → (6 ≤ c) × (c ≤ length xs) × (c ≡ get_or xs 1 0 + 5)
judge-sized xs c e =
    let frame = judge-frame xs c e in
    let onward = (reads-fields (get_or xs 2 0)).onward (drop 2 xs) 1 (get_or xs 1 0) frame.1.fields in
    let there = frame.1.ended.there in
    (omega arith, omega arith, frame.0)
