-- The frames that a reading gives: each a good frame where it stands, one behind the other.
use mathlib.Core.Path.{◌≡◌, refl, sym, ap, ◌∙◌}
use mathlib.Core.List.{List, [], ◌∷◌, ◌++◌, map-append}
use Prim.Native.Nat.{ℕ, ◌+◌, ◌≤◌}
use native.Mathlib.Omega.{arith}
use native.Mathlib.Nat.{le_refl}
use lib.ListN.{length, drop, length-append}
use lib.Seq.{drop-drop}
use Rattle.stream.specs.Reading.{good, Judge, FrameAt, Steady, read_from, read_all, replies_of}
use Rattle.stream.specs.Lateness.{Each, GivenAt, GivenSoFar}
use Rattle.stream.proofs.Turns.{by-reading, idle, at-good-frame, at-noise}

-- The replies of what is given first, and then of what is given behind it.
pub replies-append : {R : Type 0} (a b : List (FrameAt R)) → replies_of (a ++ b) ≡ replies_of a ++ replies_of b
replies-append a b = map-append (λ g. g.reply) a b

-- What holds of each of a list holds of each of its front part.
pub each-front : {R : Type 0} (P : FrameAt R → Type 0) (a b : List (FrameAt R)) → Each P (a ++ b) → Each P a
each-front P [] b h = tt
each-front P (g ∷ a) b h = (h.0, each-front P a b h.1)

-- The reply of a frame given is among the replies, behind those of the frames before it.
pub reply-given : {R : Type 0} {p n : ℕ} {r : R} {frames : List (FrameAt R)} (a : GivenAt p n r frames) → replies_of frames ≡ replies_of a.before ++ r ∷ replies_of a.after
reply-given a = ap replies_of a.exactly ∙ replies-append a.before _

-- A reply given so far is not among none.
pub not-among-none : {R : Type 0} {p n : ℕ} {r : R} {uncut : List (FrameAt R)} {replies : List R} → GivenSoFar p n r uncut replies → replies ≡ [] → ⊥
not-among-none given empty = omega (arith, simp length-append at (ap length (sym empty ∙ given.exactly)))

module _ {R : Type 0} (judge : Judge R) where
  -- frames that stand in the stream: each is good at its place, and starts at `from` or where the one before it ends, or later
  abbrev pub Stand : List ℕ → ℕ → List (FrameAt R) → Type 0
  Stand stream from [] = Unit
  Stand stream from (g ∷ gs) = (from ≤ g.place) × (judge (drop g.place stream) ≡ good g.size g.reply) × Stand stream (g.place + g.size) gs

module _ {R : Type 0} (judge : Judge R) (steady : Steady judge) where
  stand-before : (stream : List ℕ) (from : ℕ) (frames : List (FrameAt R)) → Stand judge stream (from + 1) frames → Stand judge stream from frames
  stand-before stream from [] h = tt
  stand-before stream from (g ∷ gs) h = let k : from + 1 ≤ g.place = h.0 in (omega arith, h.1, h.2)

  stand-from : (stream : List ℕ) (place : ℕ) (l : List ℕ) → l ≡ drop place stream → Stand judge stream place (read_from judge place l).frames
  stand-from stream =
      by-reading judge steady (λ place l. l ≡ drop place stream → Stand judge stream place (read_from judge place l).frames)
      (λ place l e h. rw (idle judge steady place l e) tt)
      (λ place l n r e ih h. rw (at-good-frame judge steady place l n r e) (le_refl _, ap judge (sym h) ∙ e, ih (ap (drop n) h ∙ drop-drop n place stream)))
      (λ place l e ih h. rw (at-noise judge steady place l e) (stand-before stream place (read_from judge (place + 1) (drop 1 l)).frames (ih (ap (drop 1) h ∙ drop-drop 1 place stream))))

  -- Every frame given is a good frame that stands in the stream at its place, and each starts where the one before it ends or later.
  pub given-stand : (stream : List ℕ) → Stand judge stream 0 (read_all judge stream).frames
  given-stand stream = stand-from stream 0 stream refl
