-- A good frame is judged by its own bytes alone.
use mathlib.Core.Path.{◌≡◌, sym, ◌∙◌}
use mathlib.Core.List.{List}
use Prim.Native.Nat.{ℕ, ◌+◌, ◌-◌, ◌<◌}
use native.Mathlib.Omega.{arith}
use lib.ListN.{get_or, take, drop}
use lib.Seq.{get_or-take}
use Rattle.refusals.specs.Refusals.{ok}
use Rattle.names.proofs.Prefix.{drop-take}
use Rattle.frame.proofs.Endings.{ended-own}
use Rattle.layout.proofs.Replies.{reads-fields}
use Rattle.judge.specs.Judge.{judge_of}
use Rattle.judge.proofs.Parts.{FrameParts, judge-good, good-judged}
use Rattle.judge.proofs.Sized.{judge-sized}

module _ (s : List ℕ) (n : ℕ) (good : FrameParts s n) where
  good-own : FrameParts (take (n + 5) s) n
  good-own =
      let same : (k : ℕ) → k < n + 5 → get_or (take (n + 5) s) k 0 ≡ get_or s k 0 = λ k below. get_or-take (n + 5) s k 0 below in
      record {
        start = same 0 (omega arith) ∙ good.start;
        declared = good.declared ∙ sym (same 1 (omega arith));
        fields = rw (same 2 (omega arith), drop-take 2 (n + 5) s)
            ((reads-fields (get_or s 2 0)).own (drop 2 s) 1 n (n + 5 - 2) (omega arith) good.fields);
        ended = ended-own s n good.ended;
      }

-- whatever follows a good frame, the frame alone is judged the same
pub judge-own-bytes : (xs : List ℕ) (c : ℕ) → judge_of xs ≡ ok c → judge_of (take c xs) ≡ ok c
judge-own-bytes xs c e =
    let sized = judge-sized xs c e in
    let count : c - 5 + 5 ≡ c = omega arith in
    rw count at (good-judged (take (c - 5 + 5) xs) (c - 5) (good-own xs (c - 5) (judge-good xs c e)))
