-- What a reading leaves unread: the judge says "not yet" of it, and it is no longer than the list.
use mathlib.Core.Path.{◌≡◌}
use mathlib.Core.List.{List}
use Prim.Native.Nat.{ℕ, ◌≤◌}
use native.Mathlib.Omega.{arith}
use native.Mathlib.Nat.{le_refl}
use lib.ListN.{length, length-drop}
use Rattle.stream.specs.Reading.{not_yet, Judge, Steady, read_from}
use Rattle.stream.proofs.Turns.{by-reading, idle, at-good-frame, at-noise}

module _ {R : Type 0} (judge : Judge R) (steady : Steady judge) where
  -- What a reading leaves is not yet told.
  pub rest-not-yet : (place : ℕ) (l : List ℕ) → judge (read_from judge place l).rest ≡ not_yet
  rest-not-yet =
      by-reading judge steady (λ place l. judge (read_from judge place l).rest ≡ not_yet)
      (λ place l e. rw (idle judge steady place l e) e)
      (λ place l n r e ih. rw (at-good-frame judge steady place l n r e) ih)
      (λ place l e ih. rw (at-noise judge steady place l e) ih)

  -- The rest is no longer than the list.
  pub rest-length : (place : ℕ) (l : List ℕ) → length (read_from judge place l).rest ≤ length l
  rest-length =
      by-reading judge steady (λ place l. length (read_from judge place l).rest ≤ length l)
      (λ place l e. rw (idle judge steady place l e) (le_refl _))
      (λ place l n r e ih. rw (at-good-frame judge steady place l n r e) (omega (arith, ih, length-drop n l)))
      (λ place l e ih. rw (at-noise judge steady place l e) (omega (arith, ih, length-drop 1 l)))
