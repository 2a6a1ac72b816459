-- 107 bytes counted from a good frame's first tell every start before it.
use mathlib.Core.Path.{◌≡◌}
use mathlib.Core.List.{List}
use Prim.Native.Nat.{ℕ, zero, suc, ◌+◌, ◌<◌}
use native.Mathlib.Omega.{arith}
use lib.ListN.{get_or, drop}
use lib.Seq.{get_or-drop}
use Rattle.refusals.specs.Refusals.{ok}
use Rattle.judge.specs.Judge.{judge_of}
use Rattle.judge.proofs.Full.{judge-full-others}
use Rattle.judge.proofs.Parts.{judge-frame}
use Rattle.judge.proofs.Sized.{judge-sized}
use Rattle.stream.specs.Lateness.{ToldAt, ToldBefore}
use Rattle.decoder.specs.Judge.{decode_judge}
use Rattle.decoder.specs.Lateness.{lateness, ToldEarly}
use Rattle.decoder.proofs.Judging.{decode-bounded, waits-judged, good-judged}

-- One byte before a good frame, the id is that frame's length byte.
length-is-id : (l : List ℕ) (n : ℕ) → judge_of (drop 1 l) ≡ ok n → get_or l 2 0 ≡ 0 → ⊥
length-is-id l n stands none =
    let sized = judge-sized (drop 1 l) n stands in
    let byte : get_or (drop 1 l) 1 0 ≡ get_or l 2 0 = get_or-drop 1 l 1 0 in
    omega arith

-- Two bytes before it, it is its start byte.
start-is-id : (l : List ℕ) (n : ℕ) → judge_of (drop 2 l) ≡ ok n → get_or l 2 0 ≡ 0 → ⊥
start-is-id l n stands none =
    let start : get_or (drop 2 l) 0 0 ≡ 2 = (judge-frame (drop 2 l) n stands).1.start in
    let byte : get_or (drop 2 l) 0 0 ≡ get_or l 2 0 = get_or-drop 2 l 0 0 in
    omega arith

one-before : ToldAt decode_judge 1 103
one-before l n r stands enough waits = judge-full-others l (length-is-id l n (good-judged (drop 1 l) n r stands)) enough (waits-judged l waits)

two-before : ToldAt decode_judge 2 103
two-before l n r stands enough waits = judge-full-others l (start-is-id l n (good-judged (drop 2 l) n r stands)) enough (waits-judged l waits)

further-before : (k : ℕ) → ToldAt decode_judge k 110
further-before k l n r stands enough waits = decode-bounded.told l enough waits

told-before : (k : ℕ) → 0 < k → ToldAt decode_judge k (k + lateness)
told-before zero some l n r stands enough = absurd (omega arith)
told-before (suc zero) some l n r stands enough = one-before l n r stands (omega arith)
told-before (suc (suc zero)) some l n r stands enough = two-before l n r stands (omega arith)
told-before (suc (suc (suc k))) some l n r stands enough = further-before (suc (suc (suc k))) l n r stands (omega arith)

pub decode-told-before : ToldBefore decode_judge lateness
decode-told-before = record { told = told-before }

pub told-early : ToldEarly
told-early = record { one-before = one-before; two-before = two-before; further-before = further-before; before = decode-told-before }
