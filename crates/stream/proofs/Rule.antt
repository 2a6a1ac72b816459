-- The reading is what the rule comes to, and nothing else is.
use mathlib.Core.Path.{◌≡◌, sym, ap, ◌∙◌, subst}
use mathlib.Core.Logic.{◌↔◌}
use mathlib.Core.List.{List}
use Prim.Native.Nat.{ℕ}
use Rattle.stream.specs.Reading.{Judge, Reading, Steady, frame_then, read_from, Reads, at-frame, at-stop, at_other}
use Rattle.stream.proofs.Turns.{by-reading, idle, at-good-frame, at-noise}

module _ {R : Type 0} (judge : Judge R) (steady : Steady judge) where
  only-reading : {place : ℕ} {l : List ℕ} {o : Reading R} → Reads judge place l o → o ≡ read_from judge place l
  only-reading {place} {l} (at-frame {n = n} {r = r} e on) = ap (frame_then (record { place = place; size = n; reply = r })) (only-reading on) ∙ sym (at-good-frame judge steady place l n r e)
  only-reading {place} {l} (at-stop e) = sym (idle judge steady place l e)
  only-reading {place} {l} (at_other e on) = only-reading on ∙ sym (at-noise judge steady place l e)

  reads : (place : ℕ) (l : List ℕ) → Reads judge place l (read_from judge place l)
  reads =
      by-reading judge steady (λ place l. Reads judge place l (read_from judge place l))
      (λ place l e. subst (Reads judge place l) (sym (idle judge steady place l e)) (at-stop e))
      (λ place l n r e on. subst (Reads judge place l) (sym (at-good-frame judge steady place l n r e)) (at-frame e on))
      (λ place l e on. subst (Reads judge place l) (sym (at-noise judge steady place l e)) (at_other e on))

  pub reading-by-rule : (place : ℕ) (l : List ℕ) (o : Reading R) → Reads judge place l o ↔ (o ≡ read_from judge place l)
  reading-by-rule place l o = (only-reading, λ e. subst (Reads judge place l) (sym e) (reads place l))
