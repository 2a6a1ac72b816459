-- One search: a turn of it, where it ends, the bytes it accounts for, and the reading that goes on behind it.
use mathlib.Core.Path.{◌≡◌, refl, sym, ap, ◌∙◌, subst}
use mathlib.Core.List.{List, [], ◌∷◌}
use Prim.Native.Nat.{ℕ, suc, ◌+◌, ◌<◌}
use native.Mathlib.Omega.{arith}
use native.Mathlib.Nat.{add-zero, add_assoc, zero-add}
use lib.ListN.{length, drop, length-drop}
use lib.Seq.{drop-drop}
use Rattle.stream.specs.Reading.{Verdict, good, not_yet, moves_on, Judge, Reading, Steady, stops, frame_then, read_from}
use Rattle.stream.specs.Searching.{Search, found, nothing, size_found, further, search_at, search}
use Rattle.stream.proofs.Turns.{by-reading, idle, at-good-frame, at-noise, noise-some}

-- A search begun b bytes earlier, and that a bytes earlier.
pub further-further : {R : Type 0} (a b : ℕ) (s : Search R) → further a (further b s) ≡ further (a + b) s
further-further a b (found over n r after) = ap (λ (k : ℕ). found k n r after) (sym (add_assoc a b over))
further-further a b (nothing over rest) = ap (λ (k : ℕ). nothing k rest) (sym (add_assoc a b over))

module _ {R : Type 0} where
  -- the bytes that a search moved over, found a frame or not
  abbrev pub moved_over : Search R → ℕ
  moved_over (found over n r after) = over
  moved_over (nothing over rest) = over

  -- what it leaves unread
  abbrev pub rest_of : Search R → List ℕ
  rest_of (found over n r after) = after
  rest_of (nothing over rest) = rest

  module _ (judge : Judge R) where
    -- what a search of l may come to: a good frame where it ended, or "not yet" there; and the bytes behind are left
    abbrev EndsAt : List ℕ → Search R → Type 0
    EndsAt l (found over n r after) = (judge (drop over l) ≡ good n r) × (after ≡ drop (over + n) l)
    EndsAt l (nothing over rest) = (judge (drop over l) ≡ not_yet) × (rest ≡ drop over l)

    -- the frame that a search from `place` on found is given, and then what the reading of the bytes after it gives
    abbrev pub read_on : ℕ → Search R → Reading R
    read_on place (found over n r after) = frame_then (record { place = place + over; size = n; reply = r }) (read_from judge (place + over + n) after)
    read_on place (nothing over rest) = stops rest

accounts-further : {R : Type 0} (s : Search R) → moved_over (further 1 s) + size_found (further 1 s) + length (rest_of (further 1 s)) ≡ suc (moved_over s + size_found s + length (rest_of s))
accounts-further (found over n r after) = omega arith
accounts-further (nothing over rest) = omega arith

module _ {R : Type 0} (judge : Judge R) (steady : Steady judge) where
  -- One turn of a search.
  search-turn : (l : List ℕ) (v : Verdict R) → judge l ≡ v → search judge l ≡ search_at v l (search judge (drop 1 l))
  unfolding search
  search-turn [] v e = ap (λ (w : Verdict R). search_at w [] (search judge [])) (sym steady.empty ∙ e)
  search-turn (x ∷ xs) v e = ap (λ (w : Verdict R). search_at w (x ∷ xs) (search judge xs)) e

  -- A good frame at the front is found; where the judge says "not yet" nothing is; any other byte is moved over.
  pub search-good : (l : List ℕ) (n : ℕ) (r : R) → judge l ≡ good n r → search judge l ≡ found 0 n r (drop n l)
  search-good l n r e = search-turn l (good n r) e

  pub search-not-yet : (l : List ℕ) → judge l ≡ not_yet → search judge l ≡ nothing 0 l
  search-not-yet l e = search-turn l not_yet e

  pub search-noise : (l : List ℕ) → judge l ≡ moves_on → search judge l ≡ further 1 (search judge (drop 1 l))
  search-noise l e = search-turn l moves_on e

  -- The bytes moved over, those of the frame found and those left are all the bytes there were.
  pub search-account : (l : List ℕ) → moved_over (search judge l) + size_found (search judge l) + length (rest_of (search judge l)) ≡ length l
  search-account =
      by-reading judge steady (λ place l. moved_over (search judge l) + size_found (search judge l) + length (rest_of (search judge l)) ≡ length l)
      (λ place l e. rw (search-not-yet l e) (omega arith))
      (λ place l n r e ih. rw (search-good l n r e) (omega (arith, length-drop n l, (steady.sized l n r e).1)))
      (λ place l e ih. rw (search-noise l e) (accounts-further (search judge (drop 1 l)) ∙ omega (arith, ih, length-drop 1 l, noise-some judge steady l e)))
      0

  ends-further : (l : List ℕ) (s : Search R) → EndsAt judge (drop 1 l) s → EndsAt judge l (further 1 s)
  ends-further l (found over n r after) h =
      (ap judge (sym (drop-drop over 1 l)) ∙ h.0, h.1 ∙ drop-drop (over + n) 1 l ∙ ap (λ (k : ℕ). drop k l) (sym (add_assoc 1 over n)))
  ends-further l (nothing over rest) h = (ap judge (sym (drop-drop over 1 l)) ∙ h.0, h.1 ∙ drop-drop over 1 l)

  -- A search ends at a good frame, or where the judge says "not yet", and leaves the bytes behind.
  search-ends : (l : List ℕ) → EndsAt judge l (search judge l)
  search-ends =
      by-reading judge steady (λ place l. EndsAt judge l (search judge l))
      (λ place l e. subst (EndsAt judge l) (sym (search-not-yet l e)) (e, refl))
      (λ place l n r e ih. subst (EndsAt judge l) (sym (search-good l n r e)) (e, ap (λ (k : ℕ). drop k l) (sym (zero-add n))))
      (λ place l e ih. subst (EndsAt judge l) (sym (search-noise l e)) (ends-further l (search judge (drop 1 l)) ih))
      0

  -- A search that found a frame: it is good where it stands, and it, the bytes moved over and those after it are all the bytes.
  pub found-account : (l : List ℕ) (over n : ℕ) (r : R) (after : List ℕ) → search judge l ≡ found over n r after → (judge (drop over l) ≡ good n r) × (over + n + length after ≡ length l)
  found-account l over n r after e = ((rw e at (search-ends l)).0, rw e at (search-account l))

  -- So fewer bytes are left.
  pub found-fewer : (l : List ℕ) (over n : ℕ) (r : R) (after : List ℕ) → search judge l ≡ found over n r after → length after < length l
  found-fewer l over n r after e =
      let a = found-account l over n r after e in
      omega (arith, a.1, (steady.sized (drop over l) n r a.0).0)

  -- A search that found nothing: the bytes moved over and those left are all the bytes.
  pub nothing-account : (l : List ℕ) (over : ℕ) (rest : List ℕ) → search judge l ≡ nothing over rest → over + length rest ≡ length l
  nothing-account l over rest e = let a = rw e at (search-account l) in omega arith

  -- and of those left the judge says "not yet".
  pub nothing-waits : (l : List ℕ) (over : ℕ) (rest : List ℕ) → search judge l ≡ nothing over rest → judge rest ≡ not_yet
  nothing-waits l over rest e = let h = rw e at (search-ends l) in ap judge h.1 ∙ h.0

  read-on-further : (place : ℕ) (s : Search R) → read_on judge (place + 1) s ≡ read_on judge place (further 1 s)
  read-on-further place (found over n r after) =
      ap (λ (at : ℕ). frame_then (record { place = at; size = n; reply = r }) (read_from judge (at + n) after)) (add_assoc place 1 over)
  read-on-further place (nothing over rest) = refl

  read-on-here : (place n : ℕ) (r : R) (after : List ℕ) → frame_then (record { place = place; size = n; reply = r }) (read_from judge (place + n) after) ≡ read_on judge place (found 0 n r after)
  read-on-here place n r after =
      ap (λ (at : ℕ). frame_then (record { place = at; size = n; reply = r }) (read_from judge (at + n) after)) (sym (add-zero place))

  -- The reading is one search, and then the reading of what is behind what was found.
  pub search-reading : (place : ℕ) (l : List ℕ) → read_from judge place l ≡ read_on judge place (search judge l)
  search-reading =
      by-reading judge steady (λ place l. read_from judge place l ≡ read_on judge place (search judge l))
      (λ place l e. idle judge steady place l e ∙ sym (ap (read_on judge place) (search-not-yet l e)))
      (λ place l n r e ih. at-good-frame judge steady place l n r e ∙ read-on-here place n r (drop n l) ∙ sym (ap (read_on judge place) (search-good l n r e)))
      (λ place l e ih. at-noise judge steady place l e ∙ ih ∙ read-on-further place (search judge (drop 1 l)) ∙ sym (ap (read_on judge place) (search-noise l e)))
