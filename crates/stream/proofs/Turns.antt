-- The reading, a turn at a time: what it does by each answer of the judge, and the induction that goes with it.
use mathlib.Core.Path.{◌≡◌, refl, sym, ap, ◌∙◌}
use mathlib.Core.List.{List, [], ◌∷◌}
use Prim.Native.Nat.{ℕ, zero, suc, ◌+◌, ◌<◌, ◌≤◌}
use native.Mathlib.Omega.{arith}
use native.Mathlib.Nat.{not-suc-le-zero, le_refl}
use lib.ListN.{length, drop, length-drop}
use Rattle.stream.specs.Reading.{Verdict, good, not_yet, moves_on, Judge, Reading, Steady, stops, frame_then, read_at, read_turns, read_from}

-- a turn that takes a byte or more leaves a list that one turn fewer is enough for
shorter : (k n : ℕ) (l : List ℕ) → 0 < n → length l ≤ suc k → length (drop n l) ≤ k
shorter k n l p h = rw (length-drop n l) (omega arith)

module _ {R : Type 0} (judge : Judge R) (steady : Steady judge) where
  -- A good frame is told, a byte that is moved over is told, and no position is both.
  pub good-told : (l : List ℕ) (n : ℕ) (r : R) → judge l ≡ good n r → judge l ≡ not_yet → ⊥
  good-told l n r e q = let z : ◌≡◌ {A = ℕ} 0 1 = cc in omega arith

  pub noise-told : (l : List ℕ) → judge l ≡ moves_on → judge l ≡ not_yet → ⊥
  noise-told l e q = let z : ◌≡◌ {A = ℕ} 0 1 = cc in omega arith

  pub good-no-noise : (l : List ℕ) (n : ℕ) (r : R) → judge l ≡ good n r → judge l ≡ moves_on → ⊥
  good-no-noise l n r e q = let z : ◌≡◌ {A = ℕ} 0 1 = cc in omega arith

  -- A judge that moves on has a byte to move over.
  pub noise-some : (l : List ℕ) → judge l ≡ moves_on → 0 < length l
  noise-some [] e = absurd (noise-told [] e steady.empty)
  noise-some (x ∷ xs) e = omega arith

  -- To show P of every list, wherever it stands: show it where the judge says "not yet", and elsewhere from P of what a turn leaves.
  pub by-reading : (P : ℕ → List ℕ → Type 0) → ((place : ℕ) (l : List ℕ) → judge l ≡ not_yet → P place l)
      → ((place : ℕ) (l : List ℕ) (n : ℕ) (r : R) → judge l ≡ good n r → P (place + n) (drop n l) → P place l)
      → ((place : ℕ) (l : List ℕ) → judge l ≡ moves_on → P (place + 1) (drop 1 l) → P place l)
      → (place : ℕ) (l : List ℕ) → P place l
  by-reading P ends took moved place l = within (length l) place l (le_refl _)
    where
      by : (k place : ℕ) (l : List ℕ) (v : Verdict R) → judge l ≡ v → length l ≤ suc k → ((at : ℕ) (m : List ℕ) → length m ≤ k → P at m) → P place l
      by k place l (good n r) e h ih = took place l n r e (ih (place + n) (drop n l) (shorter k n l (steady.sized l n r e).0 h))
      by k place l not_yet e h ih = ends place l e
      by k place l moves_on e h ih = moved place l e (ih (place + 1) (drop 1 l) (shorter k 1 l (le_refl _) h))

      within : (k place : ℕ) (l : List ℕ) → length l ≤ k → P place l
      within zero place [] h = ends place [] steady.empty
      within zero place (x ∷ xs) h = absurd (not-suc-le-zero h)
      within (suc k) place l h = by k place l _ refl h (λ at m. within k at m)

  -- one turn, by the judge's answer
  one-turn : (k place : ℕ) (l : List ℕ) (v : Verdict R) → judge l ≡ v → read_turns judge (suc k) place l ≡ read_at v place l (λ n. read_turns judge k (place + n) (drop n l))
  unfolding read_turns
  one-turn k place l v e = ap (λ (w : Verdict R). read_at w place l (λ n. read_turns judge k (place + n) (drop n l))) e

  -- of no bytes every turn stops
  no-turn : (k place : ℕ) → read_turns judge k place [] ≡ stops []
  unfolding read_turns
  no-turn zero place = refl
  no-turn (suc k) place = one-turn k place [] not_yet steady.empty

  -- two readings that go on alike wherever a byte or more was taken
  same_turn : (place : ℕ) (l : List ℕ) (v : Verdict R) (on on' : ℕ → Reading R) → judge l ≡ v → ((n : ℕ) → 0 < n → on n ≡ on' n) → read_at v place l on ≡ read_at v place l on'
  same_turn place l (good n r) on on' e h = ap (frame_then (record { place = place; size = n; reply = r })) (h _ (omega (arith, (steady.sized l n r e).0)))
  same_turn place l not_yet on on' e h = refl
  same_turn place l moves_on on on' e h = h _ (omega arith)

  -- Any turns that are enough give the same.
  enough : (k m place : ℕ) (l : List ℕ) → length l ≤ k → length l ≤ m → read_turns judge k place l ≡ read_turns judge m place l
  unfolding read_turns
  enough zero m place [] h j = sym (no-turn m place)
  enough zero m place (x ∷ xs) h j = absurd (not-suc-le-zero h)
  enough (suc k) zero place [] h j = no-turn (suc k) place
  enough (suc k) zero place (x ∷ xs) h j = absurd (not-suc-le-zero j)
  enough (suc k) (suc m) place l h j = same_turn place l _ _ _ refl (λ n p. enough k m (place + n) (drop n l) (shorter k n l p h) (shorter m n l p j))

  -- The reading is one turn, and then the reading of what is left.
  reading-turn : (place : ℕ) (l : List ℕ) (v : Verdict R) → judge l ≡ v → read_from judge place l ≡ read_at v place l (λ n. read_from judge (place + n) (drop n l))
  unfolding read_from
  reading-turn place l v e =
      enough (length l) (suc (length l)) place l (le_refl _) (omega arith)
      ∙ one-turn (length l) place l v e
      ∙ same_turn place l v _ _ e (λ n p. enough (length l) (length (drop n l)) (place + n) (drop n l) (shorter (length l) n l p (omega arith)) (le_refl _))

  -- "a good frame is given and passed whole"
  pub at-good-frame : (place : ℕ) (l : List ℕ) (n : ℕ) (r : R) → judge l ≡ good n r
      → read_from judge place l ≡ frame_then (record { place = place; size = n; reply = r }) (read_from judge (place + n) (drop n l))
  at-good-frame place l n r e = reading-turn place l (good n r) e

  -- "where `decode` answers 1 the reading stops": such a list is left as it is, and nothing is given
  pub idle : (place : ℕ) (l : List ℕ) → judge l ≡ not_yet → read_from judge place l ≡ stops l
  idle place l e = reading-turn place l not_yet e

  -- "otherwise it moves on one byte"
  pub at-noise : (place : ℕ) (l : List ℕ) → judge l ≡ moves_on → read_from judge place l ≡ read_from judge (place + 1) (drop 1 l)
  at-noise place l e = reading-turn place l moves_on e
