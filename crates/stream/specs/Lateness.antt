-- The words of the lateness claim, over any judge: a start before a good frame that can be told, a frame that no earlier frame of the
-- reading overlaps, a frame that is given, and given in time.
use Rattle.std.specs.Prelude.{◌≡◌, List, [], ◌∷◌, ◌++◌, ℕ, ◌+◌, ◌<◌, ◌≤◌, length, take, drop}
use Rattle.stream.specs.Reading.{Judge, good, not_yet, FrameAt, read_all, replies_of}

module _ {R : Type 0} (judge : Judge R) where
  -- How long a start k bytes before a good frame can stay undecided: `enough` bytes, counted from the start, tell it
  abbrev pub ToldAt : (k enough : ℕ) → Type 0
  ToldAt k enough = (l : List ℕ) (n : ℕ) (r : R) → judge (drop k l) ≡ good n r → enough ≤ length l → judge l ≡ not_yet → ⊥

  -- Every start before a good frame is told by `late` bytes counted from that frame's first: they are k + late counted from the start
  pub record ToldBefore (late : ℕ) : Type 0 where
    pub told : (k : ℕ) → 0 < k → ToldAt k (k + late)

module _ {R : Type 0} where
  -- P holds of every frame of the list
  abbrev pub Each : (FrameAt R → Type 0) → List (FrameAt R) → Type 0
  Each P [] = Unit
  Each P (g ∷ gs) = P g × Each P gs

  -- no frame that starts before p reaches over p
  abbrev pub NoneOver : ℕ → List (FrameAt R) → Type 0
  NoneOver p frames = Each (λ g. g.place < p → g.place + g.size ≤ p) frames

  -- exactly the frame of n bytes at p with the reply r is given, behind frames that end at p or before
  pub record GivenAt (p n : ℕ) (r : R) (frames : List (FrameAt R)) : Type 0 where
    pub before : List (FrameAt R)
    pub after : List (FrameAt R)
    pub exactly : frames ≡ before ++ record { place = p; size = n; reply = r } ∷ after
    pub clear : Each (λ g. g.place + g.size ≤ p) before

  -- the reply of the frame of n bytes at p is among the replies, at its place in the reading of the uncut stream: behind
  -- those of the frames that the reading gives before it
  pub record GivenSoFar (p n : ℕ) (r : R) (uncut : List (FrameAt R)) (replies : List R) : Type 0 where
    pub frame : GivenAt p n r uncut
    pub later : List R
    pub exactly : replies ≡ replies_of frame.before ++ r ∷ later

-- `taken` is the front of the stream that was taken in and asked for, and `replies` are the replies so far. At p of the stream stands a frame that
-- is good by its own n bytes. No earlier frame of the stream's reading reaches over p. Its last byte is taken, and so are `late` bytes counted from
-- its first. Then its reply is among the replies, at its place
abbrev pub InTime : {R : Type 0} → Judge R → (late : ℕ) (stream taken : List ℕ) (replies : List R) → Type 0
InTime {R} judge late stream taken replies =
    (p n : ℕ) (r : R) → judge (take n (drop p stream)) ≡ good n r → NoneOver p (read_all judge stream).frames
    → p + n ≤ length taken → p + late ≤ length taken
    → GivenSoFar p n r (read_all judge stream).frames replies
