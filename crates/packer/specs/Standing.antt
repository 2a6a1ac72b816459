-- Bytes that stand at a place of a slice: what reading and writing meet in.
use Rattle.std.specs.Prelude.{◌≡◌, List, ◌++◌, ℕ, ◌+◌, ◌≤◌, length, drop}

-- these bytes stand in s, from a place up to another
pub record Stands (bytes s : List ℕ) (at end : ℕ) : Type 0 where
  pub here : drop at s ≡ bytes ++ drop end s
  pub ends : end ≡ at + length bytes
  pub inside : end ≤ length s
