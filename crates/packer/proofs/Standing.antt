-- What stands one after the other in a slice.
use mathlib.Core.Path.{◌≡◌, refl, sym, ap, ◌∙◌}
use mathlib.Core.List.{List, [], ◌∷◌, ◌++◌, append_assoc}
use Prim.Native.Nat.{ℕ, suc, ◌+◌, ◌≤◌, ◌<◌}
use native.Mathlib.Omega.{arith}
use native.Mathlib.Nat.{add-zero}
use lib.ListN.{length, get_or, take, drop, length-append, length-drop, take-append-drop}
use lib.Seq.{take_at, length-take-le, drop-drop, drop-cons, drop-append_seam, get_or-drop}
use Rattle.packer.specs.Standing.{Stands}

-- nothing stands anywhere
pub nothing : (s : List ℕ) (at : ℕ) → at ≤ length s → Stands [] s at at
nothing s at inside = record { here = refl; ends = omega arith; inside = inside }

-- a byte
pub one : (s : List ℕ) (at : ℕ) → at < length s → Stands (get_or s at 0 ∷ []) s at (suc at)
one s at inside = record { here = drop-cons s at 0 inside; ends = omega arith; inside = inside }

pub the_one : {x : ℕ} {s : List ℕ} {at end : ℕ} → Stands (x ∷ []) s at end → get_or s at 0 ≡ x
the_one {x} {s} {at} p = rw add-zero at (sym (get_or-drop at s 0 0) ∙ ap (λ (l : List ℕ). get_or l 0 0) p.here)

-- two of them are one
pub joined : {v w s : List ℕ} {at mid end : ℕ} → Stands v s at mid → Stands w s mid end → Stands (v ++ w) s at end
joined {v} {w} {s} {at} {mid} {end} p q =
    record {
      here = p.here ∙ ap (λ (l : List ℕ). v ++ l) q.here ∙ sym (append_assoc v w (drop end s));
      ends = omega (arith, length-append v w);
      inside = q.inside;
    }

-- and one of joined bytes is two
module _ (v w : List ℕ) {s : List ℕ} {at end : ℕ} (p : Stands (v ++ w) s at end) where
  rest : drop at s ≡ v ++ (w ++ drop end s)
  rest = p.here ∙ append_assoc v w (drop end s)

  pub second : Stands w s (at + length v) end
  second =
      record {
        here = sym (drop-drop (length v) at s) ∙ ap (λ (l : List ℕ). drop (length v) l) rest ∙ drop-append_seam v (w ++ drop end s);
        ends = omega (arith, length-append v w);
        inside = p.inside;
      }

  pub first : Stands v s at (at + length v)
  first =
      record {
        here = rest ∙ ap (λ (l : List ℕ). v ++ l) (sym second.here);
        ends = refl;
        inside = let q = second in omega arith;
      }

-- bytes in front of others
pub in-front : (w rest : List ℕ) → Stands w (w ++ rest) 0 (length w)
in-front w rest =
    record {
      here = ap (λ (l : List ℕ). w ++ l) (sym (drop-append_seam w rest));
      ends = omega arith;
      inside = omega (arith, length-append w rest);
    }

-- the bytes from a place on, so many
pub part : (s : List ℕ) (at n : ℕ) → at + n ≤ length s → Stands (take n (drop at s)) s at (at + n)
part s at n inside =
    let size : length (take n (drop at s)) ≡ n = length-take-le n (drop at s) (simp length-drop (omega arith)) in
    record { here = sym (take-append-drop n (drop at s)) ∙ rw drop-drop; ends = omega arith; inside = inside }

pub taken : {w s : List ℕ} {at end : ℕ} → Stands w s at end → w ≡ take (length w) (drop at s)
taken {w} {s} {at} {end} p = rw p.here (sym (take_at w (drop end s) (length w) refl))
