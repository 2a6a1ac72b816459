-- Why the lateness claim asks about every start before a good frame, also about one just a byte before it: a judge for which that one start stays
-- undecided, and a good frame that is then not given in time.
use Rattle.std.specs.Prelude.{◌&&◌, cond, List, [], ◌∷◌, ℕ, ◌+◌, ◌<◌, eqb, ltb, length}
use Rattle.stream.specs.Reading.{good, not_yet, moves_on, Judge, Steady, read_all, replies_of}
use Rattle.stream.specs.Lateness.{ToldAt, ToldBefore, InTime}

-- It judges made-up frames: a 1 is a good frame by itself; a 2 starts something that only four bytes tell, and that is no frame after all; no other byte
-- starts anything
abbrev pub four_tell : Judge Unit
four_tell [] = not_yet
four_tell (x ∷ xs) = cond (eqb x 1) (good 1 tt) (cond (eqb x 2 && ltb (length xs) 3) not_yet moves_on)

-- the frame 1 stands at 1, behind a 2. Two bytes from the frame's first on are taken: the 1 and a 0
abbrev pub two_taken : List ℕ
two_taken = 2 ∷ 1 ∷ 0 ∷ []

pub record OneBefore : Type 0 where
  pub steady : Steady four_tell
  -- of the starts before a good frame, two bytes counted from the frame's first tell all but the one just before it, and three tell all
  pub others : (k : ℕ) → 1 < k → ToldAt four_tell k (k + 2)
  pub all : ToldBefore four_tell 3
  -- and two bytes are not enough for the frame to be given
  pub late : InTime four_tell 2 (2 ∷ 1 ∷ 0 ∷ 0 ∷ []) two_taken (replies_of (read_all four_tell two_taken).frames) → ⊥
