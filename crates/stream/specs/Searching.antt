-- One search. Document 01, "The stream": "`next` does this on the unread bytes", and of the line figures
-- "handed, bytes of frames given; passed, one per byte moved over". Over any judge.
use Rattle.std.specs.Prelude.{List, [], ◌∷◌, ℕ, ◌+◌, drop}
use Rattle.stream.specs.Reading.{Verdict, good, not_yet, moves_on, Judge}

-- where a search ends
pub data Search (R : Type 0) : Type 0 where
  -- at a good frame: how many bytes were moved over, its size, its reply, and the bytes after it
  found : ℕ → ℕ → R → List ℕ → Search R
  -- with nothing: how many bytes were moved over, and the rest
  nothing : ℕ → List ℕ → Search R

module _ {R : Type 0} where
  -- the bytes of the frame found, if one was
  abbrev pub size_found : Search R → ℕ
  size_found (found over n r after) = n
  size_found (nothing over rest) = 0

  -- the same search, begun k bytes earlier
  abbrev pub further : ℕ → Search R → Search R
  further k (found over n r after) = found (k + over) n r after
  further k (nothing over rest) = nothing (k + over) rest

  -- l are the bytes from the position on, `on` is the search one byte further
  abbrev pub search_at : Verdict R → List ℕ → Search R → Search R
  search_at (good n r) l on = found 0 n r (drop n l)
  search_at not_yet l on = nothing 0 l
  search_at moves_on l on = further 1 on

  module _ (judge : Judge R) where
    -- one search, from the front of the unread bytes on
    unfoldable pub search : List ℕ → Search R
    search [] = nothing 0 []
    search (x ∷ xs) = let on = search xs in search_at (judge (x ∷ xs)) (x ∷ xs) on

  -- A scan of l that tells numbers: `over` bytes were moved over, and behind them stands a good frame of n bytes, or nothing is found. The reply is read
  -- from the bytes of l that begin with the frame
  abbrev pub found_at : (List ℕ → R) → List ℕ → ℕ → ℕ → Search R
  found_at reply l over n = found over n (reply (drop over l)) (drop (over + n) l)

  abbrev pub nothing_at : List ℕ → ℕ → Search R
  nothing_at l over = nothing over (drop over l)
