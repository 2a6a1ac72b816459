-- The reading of a stream in two parts: what stands when bytes are appended.
use mathlib.Core.Path.{◌≡◌, sym, ap, ◌∙◌}
use mathlib.Core.List.{List, ◌++◌}
use Prim.Native.Nat.{ℕ, ◌+◌, ◌-◌, ◌≤◌}
use native.Mathlib.Omega.{arith}
use lib.ListN.{length, drop, length-drop}
use lib.Seq.{drop-append-le}
use Rattle.stream.specs.Reading.{good, not_yet, moves_on, Judge, FrameAt, Reading, Steady, frame_then, read_from, read_all}
use Rattle.stream.proofs.Turns.{by-reading, idle, at-good-frame, at-noise, good-told, noise-told, noise-some}
use Rattle.stream.proofs.Rest.{rest-length}

module _ {R : Type 0} where
  -- what was given first, and then what o gives
  abbrev pub behind : List (FrameAt R) → Reading R → Reading R
  behind first o = record { frames = first ++ o.frames; rest = o.rest }

  -- where the first unread byte stands, after the reading o of a list l that starts at `place`
  abbrev pub unread_place : ℕ → List ℕ → Reading R → ℕ
  unread_place place l o = place + (length l - length o.rest)

module _ {R : Type 0} (judge : Judge R) where
  -- the reading o of a list l that starts at `place` goes on when more bytes come: they are appended to what o left
  abbrev pub goes_on : ℕ → List ℕ → Reading R → List ℕ → Reading R
  goes_on place l o more = behind o.frames (read_from judge (unread_place place l o) (o.rest ++ more))

module _ {R : Type 0} (judge : Judge R) (steady : Steady judge) where
  -- A good frame stays one when bytes are appended,
  pub good-stands : (xs ys : List ℕ) (n : ℕ) (r : R) → judge xs ≡ good n r → judge (xs ++ ys) ≡ good n r
  good-stands xs ys n r e = steady.prefix xs ys (good-told judge steady xs n r e) ∙ e

  -- and so does a byte that is moved over.
  noise-stands : (xs ys : List ℕ) → judge xs ≡ moves_on → judge (xs ++ ys) ≡ moves_on
  noise-stands xs ys e = steady.prefix xs ys (noise-told judge steady xs e) ∙ e

  -- what reads from n bytes further on goes on at the same place
  same_place : (place n : ℕ) (l ys : List ℕ) → n ≤ length l
      → goes_on judge (place + n) (drop n l) (read_from judge (place + n) (drop n l)) ys ≡ goes_on judge place l (read_from judge (place + n) (drop n l)) ys
  same_place place n l ys h =
      let o = read_from judge (place + n) (drop n l) in
      let k : unread_place (place + n) (drop n l) o ≡ unread_place place l o = omega (arith, length-drop n l, rest-length judge steady (place + n) (drop n l)) in
      ap (λ (at : ℕ). behind o.frames (read_from judge at (o.rest ++ ys))) k

  -- what is to be shown of the first part, xs, by the turns of its reading
  abbrev Joins : List ℕ → ℕ → List ℕ → Type 0
  Joins ys place xs = read_from judge place (xs ++ ys) ≡ goes_on judge place xs (read_from judge place xs) ys

  joins-at-stop : (ys : List ℕ) (place : ℕ) (l : List ℕ) → judge l ≡ not_yet → Joins ys place l
  joins-at-stop ys place l e =
      let k : place ≡ place + (length l - length l) = omega arith in
      rw (idle judge steady place l e) (ap (λ (at : ℕ). read_from judge at (l ++ ys)) k)

  joins-at-frame : (ys : List ℕ) (place : ℕ) (l : List ℕ) (n : ℕ) (r : R) → judge l ≡ good n r → Joins ys (place + n) (drop n l) → Joins ys place l
  joins-at-frame ys place l n r e ih =
      let s : n ≤ length l = (steady.sized l n r e).1 in
      let g : FrameAt R = record { place = place; size = n; reply = r } in
      at-good-frame judge steady place (l ++ ys) n r (good-stands l ys n r e)
      ∙ ap (λ (m : List ℕ). frame_then g (read_from judge (place + n) m)) (drop-append-le n l ys s)
      ∙ ap (frame_then g) (ih ∙ same_place place n l ys s)
      ∙ sym (ap (λ (o : Reading R). goes_on judge place l o ys) (at-good-frame judge steady place l n r e))

  joins-at-noise : (ys : List ℕ) (place : ℕ) (l : List ℕ) → judge l ≡ moves_on → Joins ys (place + 1) (drop 1 l) → Joins ys place l
  joins-at-noise ys place l e ih =
      let s : 1 ≤ length l = noise-some judge steady l e in
      at-noise judge steady place (l ++ ys) (noise-stands l ys e)
      ∙ ap (read_from judge (place + 1)) (drop-append-le 1 l ys s)
      ∙ ih
      ∙ same_place place 1 l ys s
      ∙ sym (ap (λ (o : Reading R). goes_on judge place l o ys) (at-noise judge steady place l e))

  -- The reading of a joined stream is the reading of its first part, which goes on with the second behind what it left.
  pub reading-joined : (place : ℕ) (xs ys : List ℕ) → read_from judge place (xs ++ ys) ≡ goes_on judge place xs (read_from judge place xs) ys
  reading-joined place xs ys = by-reading judge steady (Joins ys) (joins-at-stop ys) (joins-at-frame ys) (joins-at-noise ys) place xs

  -- What the reading of a stream gives stays given, and in front, when bytes are appended.
  pub given-front : (xs ys : List ℕ) → (more : List (FrameAt R)) × ((read_all judge (xs ++ ys)).frames ≡ (read_all judge xs).frames ++ more)
  given-front xs ys = (_, ap (λ (o : Reading R). o.frames) (reading-joined 0 xs ys))
