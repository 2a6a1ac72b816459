-- "On success .. later bytes don't matter", and neither do they on a refusal but IncompleteData.
use mathlib.Core.Path.{◌≡◌}
use mathlib.Core.List.{List, ◌++◌}
use Prim.Native.Nat.{ℕ, ◌-◌}
use lib.Dec.{eqb}
use lib.ListN.{length, drop}
use Rattle.refusals.specs.Refusals.{refused, incomplete_data, invalid_frame}
use Rattle.refusals.proofs.Answers.{Kept, Kept-then, kept-unless}
use Rattle.names.proofs.Prefix.{drop-joined}
use Rattle.frame.proofs.Places.{byte-kept}
use Rattle.frame.proofs.Heads.{head-kept}
use Rattle.frame.proofs.Endings.{finish-kept}
use Rattle.layout.specs.Replies.{fields_end}
use Rattle.layout.proofs.Replies.{reads-fields}
use Rattle.judge.specs.Judge.{judge_of}
use Rattle.judge.proofs.Order.{behind_length}

module _ (xs ys : List ℕ) where
  fields-kept : (id : ℕ) → Kept (fields_end id (drop 2 xs) 1) (fields_end id (drop 2 (xs ++ ys)) 1)
  fields-kept id known = rw (drop-joined 2 xs ys) ((reads-fields id).same (drop 2 xs) (drop (2 - length xs) ys) 1 known)

  -- more bytes change no judgement but IncompleteData
  pub judge-prefix : (judge_of xs ≡ refused incomplete_data → ⊥) → judge_of (xs ++ ys) ≡ judge_of xs
  unfolding judge_of
  judge-prefix =
      head-kept xs ys (behind_length xs) (behind_length (xs ++ ys)) (λ n.
      Kept-then _ _ _ _ (byte-kept xs ys 2) (λ id third.
      Kept-then _ _ _ _ (fields-kept id) (λ read fields.
      kept-unless (eqb n read) invalid_frame _ _ (λ same. finish-kept xs ys n))))
