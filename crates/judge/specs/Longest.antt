-- The longest frames. Document 01, "Reply fields": "Longest frames: FwVersion 110, FwInfo 103, selective 83, GetValues
-- and setup 79, stats 54. So `decode` of 110 bytes or more never answers 1." `judge_of` is the answer of `decode` without
-- the reply.
use Rattle.std.specs.Prelude.{◌≡◌, List, ℕ, ◌≤◌, length}
use Rattle.refusals.specs.Refusals.{ok, refused, incomplete_data}
use Rattle.format.specs.Format.{id_of}
use Rattle.format.specs.declared.CommandId.TheVariants as CommandId
use Rattle.packer.specs.Nearness.{Bytes}
use Rattle.judge.specs.Judge.{judge_of}
use Rattle.judge.specs.Good.{id_byte}

-- no good frame with the id is longer, and there is one as long
pub record Longest (id most : ℕ) : Type 0 where
  pub none-longer : (s : List ℕ) (count : ℕ) → id_byte s ≡ id → judge_of s ≡ ok count → count ≤ most
  pub one : List ℕ
  pub bytes : Bytes one
  pub its-id : id_byte one ≡ id
  pub as_long : judge_of one ≡ ok most

pub record LongestFrames : Type 0 where
  pub fw-version : Longest (id_of CommandId.FwVersion) 110
  pub fw-info : Longest (id_of CommandId.FwInfo) 103
  pub selective : Longest (id_of CommandId.GetValuesSelective) 83
  pub get-values : Longest (id_of CommandId.GetValues) 79
  pub setup : Longest (id_of CommandId.GetValuesSetupSelective) 79
  pub stats : Longest (id_of CommandId.GetStats) 54
  -- ResetStats has no fields
  pub reset-stats : Longest (id_of CommandId.ResetStats) 6
  -- "never answers 1"
  pub enough : (s : List ℕ) → 110 ≤ length s → judge_of s ≡ refused incomplete_data → ⊥
  -- nor of 103 bytes or more, where the id is not FwVersion's
  pub enough-for-others : (s : List ℕ) → (id_byte s ≡ id_of CommandId.FwVersion → ⊥) → 103 ≤ length s → judge_of s ≡ refused incomplete_data → ⊥
