-- A good frame that no earlier frame of the reading overlaps is given in time.
use mathlib.Core.Path.{◌≡◌, sym, ap, ◌∙◌, subst}
use mathlib.Core.List.{List, [], ◌∷◌, ◌++◌, append_assoc}
use Prim.Native.Nat.{ℕ, zero, suc, ◌+◌, ◌-◌, ◌≤◌, ◌<◌}
use native.Mathlib.Omega.{arith}
use native.Mathlib.Nat.{zero-add}
use lib.ListN.{length, take, drop, length-drop, take-append-drop}
use lib.Seq.{drop-drop, drop-append-le, take-append-le}
use Rattle.stream.specs.Reading.{good, not_yet, moves_on, Judge, FrameAt, Steady, Bounded, read_from, read_all, replies_of}
use Rattle.stream.specs.Lateness.{ToldBefore, NoneOver, GivenAt, InTime}
use Rattle.stream.proofs.Turns.{by-reading, at-good-frame, at-noise, good-told, good-no-noise}
use Rattle.stream.proofs.Frames.{each-front, reply-given}
use Rattle.stream.proofs.Joined.{given-front, good-stands}

-- Where `bound` bytes tell every start, bound - 1 bytes counted from a good frame's first tell those before it.
pub bound-told : {R : Type 0} (judge : Judge R) (bound : ℕ) → Bounded judge bound → ToldBefore judge (bound - 1)
bound-told judge bound bounded = record { told = λ k some l n r stands enough. bounded.told l (omega arith) }

-- What is in time is so with a greater lateness too.
pub in-time-later : {R : Type 0} (judge : Judge R) (late later : ℕ) (stream taken : List ℕ) (replies : List R) → late ≤ later
    → InTime judge late stream taken replies → InTime judge later stream taken replies
in-time-later judge late later stream taken replies more sooner p n r stands clear own enough = sooner p n r stands clear own (omega arith)

-- at every position before p it can be told whether a good frame starts there
abbrev Settled : {R : Type 0} → Judge R → List ℕ → ℕ → Type 0
Settled judge xs p = (q : ℕ) → q < p → judge (drop q xs) ≡ not_yet → ⊥

module _ {R : Type 0} (judge : Judge R) (steady : Steady judge) where
  -- what is settled stays so from m bytes further on
  settled_on : (m q : ℕ) (l : List ℕ) → m ≤ q → Settled judge l q → Settled judge (drop m l) (q - m)
  settled_on m q l h s j k = subst (λ (x : List ℕ). judge x ≡ not_yet → ⊥) (sym (drop-drop j m l)) (s (m + j) (omega arith))

  good-on : (m q : ℕ) (l : List ℕ) (n : ℕ) (r : R) → m ≤ q → judge (drop q l) ≡ good n r → judge (drop (q - m) (drop m l)) ≡ good n r
  good-on m q l n r h e =
      let k : m + (q - m) ≡ q = omega arith in
      ap judge (drop-drop (q - m) m l ∙ ap (λ (j : ℕ). drop j l) k) ∙ e

  -- The bytes before a good frame at p are settled as soon as `late` bytes counted from its first have been taken in.
  settled_before : (late : ℕ) → ToldBefore judge late → (xs : List ℕ) (p n : ℕ) (r : R) → judge (drop p xs) ≡ good n r → p + late ≤ length xs → Settled judge xs p
  settled_before late before xs p n r stands enough q earlier =
      before.told (p - q) (omega arith) (drop q xs) n r (good-on q p xs n r (omega arith) stands) (rw (length-drop q xs) (omega arith))

  module _ (p n : ℕ) (r : R) where
    -- what is shown of the frames given of a list l that starts at `place`: the frame stands q bytes into l, and so at p
    abbrev Claim : ℕ → List ℕ → List (FrameAt R) → Type 0
    Claim place l frames = (q : ℕ) → place + q ≡ p → judge (drop q l) ≡ good n r → Settled judge l q → NoneOver p frames → GivenAt p n r frames

    at-stop : (place : ℕ) (l : List ℕ) (frames : List (FrameAt R)) → judge l ≡ not_yet → Claim place l frames
    at-stop place l frames e zero k stands s h = absurd (good-told judge steady l n r stands e)
    at-stop place l frames e (suc q) k stands s h = absurd (s zero (omega arith) e)

    behind-earlier : (g : FrameAt R) (frames : List (FrameAt R)) → g.place + g.size ≤ p → GivenAt p n r frames → GivenAt p n r (g ∷ frames)
    behind-earlier g frames h a = record { before = g ∷ a.before; after = a.after; exactly = ap (λ (x : List (FrameAt R)). g ∷ x) a.exactly; clear = (h, a.clear) }

    at-frame : (place : ℕ) (l : List ℕ) (m : ℕ) (t : R) (frames : List (FrameAt R)) → judge l ≡ good m t
        → Claim (place + m) (drop m l) frames → Claim place l (record { place = place; size = m; reply = t } ∷ frames)
    at-frame place l m t frames e ih zero k stands s h =
        let at : place ≡ p = omega arith in
        let size : m ≡ n = cc in
        let reply : t ≡ r = cc in
        record { before = []; after = frames; exactly = λ i. record { place = at i; size = size i; reply = reply i } ∷ frames; clear = tt }
    at-frame place l m t frames e ih (suc q) k stands s h =
        let ends : place + m ≤ p = h.0 (omega arith) in
        behind-earlier _ frames ends (ih (suc q - m) (omega arith) (good-on m (suc q) l n r (omega arith) stands) (settled_on m (suc q) l (omega arith) s) h.1)

    past-noise : (place : ℕ) (l : List ℕ) (frames : List (FrameAt R)) → judge l ≡ moves_on → Claim (place + 1) (drop 1 l) frames → Claim place l frames
    past-noise place l frames e ih zero k stands s h = absurd (good-no-noise judge steady l n r stands e)
    past-noise place l frames e ih (suc q) k stands s h =
        ih (suc q - 1) (omega arith) (good-on 1 (suc q) l n r (omega arith) stands) (settled_on 1 (suc q) l (omega arith) s) h

    claim : (place : ℕ) (l : List ℕ) → Claim place l (read_from judge place l).frames
    claim =
        by-reading judge steady (λ place l. Claim place l (read_from judge place l).frames)
        (λ place l e. at-stop place l _ e)
        (λ place l m t e ih. rw (at-good-frame judge steady place l m t e) (at-frame place l m t _ e ih))
        (λ place l e ih. rw (at-noise judge steady place l e) (past-noise place l _ e ih))

  -- A good frame is given exactly where it stands, if every byte before it is settled and no earlier frame of the reading reaches over its first byte.
  given-where-settled : (xs : List ℕ) (p n : ℕ) (r : R) → judge (drop p xs) ≡ good n r → Settled judge xs p
      → NoneOver p (read_all judge xs).frames → GivenAt p n r (read_all judge xs).frames
  given-where-settled xs p n r stands s h = claim p n r 0 xs p (zero-add p) stands s h

  -- What was given stays given when bytes are appended.
  unfoldable given_stays : (xs ys : List ℕ) (p n : ℕ) (r : R) → GivenAt p n r (read_all judge xs).frames → GivenAt p n r (read_all judge (xs ++ ys)).frames
  given_stays xs ys p n r a =
      let f = given-front judge steady xs ys in
      record { before = a.before; after = a.after ++ f.0; exactly = f.1 ∙ ap (λ (x : List (FrameAt R)). x ++ f.0) a.exactly ∙ append_assoc a.before _ f.0; clear = a.clear }

  -- A good frame of the uncut stream xs ++ ys is one for xs as soon as its own last byte has been taken in.
  good-in-front : (xs ys : List ℕ) (p n : ℕ) (r : R) → judge (take n (drop p (xs ++ ys))) ≡ good n r → p + n ≤ length xs → judge (drop p xs) ≡ good n r
  good-in-front xs ys p n r stands k =
      let room : n ≤ length (drop p xs) = rw (length-drop p xs) (omega arith) in
      let same : take n (drop p (xs ++ ys)) ≡ take n (drop p xs) = ap (take n) (drop-append-le p xs ys (omega arith)) ∙ take-append-le n (drop p xs) ys room in
      ap judge (sym (take-append-drop n (drop p xs)))
      ∙ good-stands judge steady (take n (drop p xs)) (drop n (drop p xs)) n r (ap judge (sym same) ∙ stands)

  -- How late is late. A good frame of n bytes stands at p of the uncut stream xs ++ ys, and no earlier frame of the reading of that stream reaches
  -- over its first byte. Once its own last byte and `late` bytes counted from its first have been taken in with xs, the reading of xs gives it.
  given-in-time : (late : ℕ) → ToldBefore judge late → (xs ys : List ℕ) (p n : ℕ) (r : R) → judge (take n (drop p (xs ++ ys))) ≡ good n r
      → NoneOver p (read_all judge (xs ++ ys)).frames → p + n ≤ length xs → p + late ≤ length xs → GivenAt p n r (read_all judge xs).frames
  given-in-time late before xs ys p n r stands h own enough =
      let f = given-front judge steady xs ys in
      let here = good-in-front xs ys p n r stands own in
      given-where-settled xs p n r here (settled_before late before xs p n r here enough)
      (each-front _ (read_all judge xs).frames f.0 (subst (NoneOver p) f.1 h))

  -- So it is in time wherever the replies are those of the reading of what is taken.
  pub in-time : (late : ℕ) → ToldBefore judge late → (stream taken ahead : List ℕ) (replies : List R) → stream ≡ taken ++ ahead
      → replies ≡ replies_of (read_all judge taken).frames → InTime judge late stream taken replies
  unfolding given_stays
  in-time late before stream taken ahead replies front same p n r stands clear own enough =
      let a = given-in-time late before taken ahead p n r (rw front at stands) (rw front at clear) own enough in
      rw front (record { frame = given_stays taken ahead p n r a; later = replies_of a.after; exactly = same ∙ reply-given a })
