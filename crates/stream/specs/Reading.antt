-- The reading of a finite stream, over any judge of bytes. Document 01, "The stream": "at a position, a good frame is given and
-- passed whole; where `decode` answers 1 the reading stops; otherwise it moves on one byte." Nothing here knows a frame: the judge
-- does, and R is what it replies.
use Rattle.std.specs.Prelude.{◌≡◌, List, [], ◌∷◌, ◌++◌, map, ℕ, zero, suc, ◌+◌, ◌<◌, ◌≤◌, length, drop}

-- what a judge says of the bytes from a position on
pub data Verdict (R : Type 0) : Type 0 where
  -- a good frame stands here: its size, and its reply
  good : ℕ → R → Verdict R
  -- there are too few bytes to tell (`decode` answers 1)
  not_yet : Verdict R
  -- no good frame starts here
  moves_on : Verdict R

abbrev pub Judge : Type 0 → Type 0
Judge R = List ℕ → Verdict R

-- what is asked of a judge
pub record Steady {R : Type 0} (judge : Judge R) : Type 0 where
  -- an answer other than "not yet" stands when bytes are appended
  pub prefix : (xs ys : List ℕ) → (judge xs ≡ not_yet → ⊥) → judge (xs ++ ys) ≡ judge xs
  -- a good frame has a byte, and lies within the bytes judged
  pub sized : (xs : List ℕ) (n : ℕ) (r : R) → judge xs ≡ good n r → (0 < n) × (n ≤ length xs)
  -- of no bytes nothing can be told
  pub empty : judge [] ≡ not_yet

-- and, where a law says so, that `bound` bytes are always enough to tell
pub record Bounded {R : Type 0} (judge : Judge R) (bound : ℕ) : Type 0 where
  pub told : (xs : List ℕ) → bound ≤ length xs → judge xs ≡ not_yet → ⊥

-- a frame given: the place of its first byte in the stream, how many bytes it has, and its reply
pub record FrameAt (R : Type 0) : Type 0 where
  pub place : ℕ
  pub size : ℕ
  pub reply : R

-- what a reading gives, in order, and what it leaves unread
pub record Reading (R : Type 0) : Type 0 where
  pub frames : List (FrameAt R)
  pub rest : List ℕ

module _ {R : Type 0} where
  -- the replies given, without their places
  abbrev pub replies_of : List (FrameAt R) → List R
  replies_of frames = map (λ g. g.reply) frames

  -- nothing is given, and l is left
  abbrev pub stops : List ℕ → Reading R
  stops l = record { frames = []; rest = l }

  -- g is given, and then what o gives
  abbrev pub frame_then : FrameAt R → Reading R → Reading R
  frame_then g o = record { frames = g ∷ o.frames; rest = o.rest }

  -- "at a position, a good frame is given and passed whole; where `decode` answers 1 the reading stops; otherwise it moves on one
  -- byte": l are the bytes from the position on, `on n` is the reading n bytes further
  abbrev pub read_at : Verdict R → ℕ → List ℕ → (ℕ → Reading R) → Reading R
  read_at (good n r) place l on = frame_then (record { place = place; size = n; reply = r }) (on n)
  read_at not_yet place l on = stops l
  read_at moves_on place l on = on 1

  module _ (judge : Judge R) where
    -- so many turns of it. A turn that does not stop takes a byte or more, so the length of the list is turns enough
    unfoldable pub read_turns : ℕ → ℕ → List ℕ → Reading R
    read_turns zero place l = stops l
    read_turns (suc k) place l = read_at (judge l) place l (λ n. read_turns k (place + n) (drop n l))

    -- the reading of bytes the first of which stands at `place` of the stream
    unfoldable pub read_from : ℕ → List ℕ → Reading R
    read_from place l = read_turns (length l) place l

    -- "the reading of a finite stream"
    abbrev pub read_all : List ℕ → Reading R
    read_all l = read_from 0 l

    -- The same as a rule, with no turns to count: what reading l comes to, the first byte of which stands at `place`
    pub data Reads : (place : ℕ) (l : List ℕ) → Reading R → Type 0 where
      -- "a good frame is given and passed whole"
      at-frame : {place n : ℕ} {l : List ℕ} {r : R} {o : Reading R} → judge l ≡ good n r → Reads (place + n) (drop n l) o
          → Reads place l (frame_then (record { place = place; size = n; reply = r }) o)
      -- "where `decode` answers 1 the reading stops"
      at-stop : {place : ℕ} {l : List ℕ} → judge l ≡ not_yet → Reads place l (stops l)
      -- "otherwise it moves on one byte"
      at_other : {place : ℕ} {l : List ℕ} {o : Reading R} → judge l ≡ moves_on → Reads (place + 1) (drop 1 l) o → Reads place l o

-- the uncut stream: its pieces, joined
abbrev pub joined : List (List ℕ) → List ℕ
joined [] = []
joined (p ∷ ps) = p ++ joined ps
