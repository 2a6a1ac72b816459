-- A name is the same wherever its bytes stand, and bytes after it do not matter.
use mathlib.Core.Path.{◌≡◌, refl, sym, ap}
use mathlib.Core.Bool.{Bool, true, false, cond}
use mathlib.Core.List.{List, [], ◌∷◌}
use Prim.Native.Nat.{ℕ, zero, suc, ◌+◌, ◌-◌, ◌≤◌}
use native.Mathlib.Omega.{arith}
use lib.Dec.{eqb}
use lib.ListN.{length, take, drop, length-drop}
use lib.Seq.{drop-drop, take-take}
use Rattle.refusals.specs.Refusals.{Answer, ok, refused}
use Rattle.refusals.specs.Answers.{place_or}
use Rattle.names.specs.Names.{nul_within, held_bytes, name_at}
use Rattle.names.proofs.Places.{given-ends}
use Rattle.names.proofs.Prefix.{drop-take, nul-own}

-- an answer so many places on
abbrev pub moved : ℕ → Answer ℕ → Answer ℕ
moved by (ok next) = ok (by + next)
moved by (refused why) = refused why

moved_cond : (b : Bool) (here next by : ℕ) (on further : Answer ℕ) → next ≡ by + here → on ≡ moved by further
    → cond b (ok next) on ≡ moved by (cond b (ok here) further)
moved_cond true here next by on further e same = ap ok e
moved_cond false here next by on further e same = same

-- a scan from a place that is counted from further back
pub nul-moved : (room : ℕ) (left : List ℕ) (by place : ℕ) → nul_within room left (by + place) ≡ moved by (nul_within room left place)
unfolding nul_within
nul-moved zero left by place = refl
nul-moved (suc room) [] by place = refl
nul-moved (suc room) (byte ∷ left) by place =
    let e : by + place + 1 ≡ by + (place + 1) = omega arith in
    moved_cond (eqb byte 0) (place + 1) (by + place + 1) by _ _ e (rw e (nul-moved room left by (place + 1)))

held_moved : (room : ℕ) (left : List ℕ) (by place : ℕ) (answer : Answer ℕ) → held_bytes room left (by + place) (moved by answer) ≡ held_bytes room left place answer
unfolding held_bytes
held_moved room left by place (ok next) = let e : by + next - (by + place) ≡ next - place = omega arith in rw e
held_moved room left by place (refused why) = refl

place-moved : (by len all : ℕ) (answer : Answer ℕ) → by + len ≡ all → place_or all (moved by answer) ≡ by + place_or len answer
place-moved by len all (ok next) e = refl
place-moved by len all (refused why) e = sym e

module _ (room : ℕ) (s : List ℕ) (n at : ℕ) where
  -- the name in the part from n on
  pub name-drop : (name_at room (drop n s) at).bytes ≡ (name_at room s (n + at)).bytes
  unfolding name_at
  name-drop = sym (rw (nul-moved room (drop (n + at) s) n at, held_moved room (drop (n + at) s) n at (nul_within room (drop (n + at) s) at), ← drop-drop at n s))

  -- and the place after it
  pub name-place-drop
      : n ≤ length s
      → n + place_or (length (drop n s)) (nul_within room (drop at (drop n s)) at) ≡ place_or (length s) (nul_within room (drop (n + at) s) (n + at))
  name-place-drop inside =
      let left = length-drop n s in
      sym (rw (nul-moved room (drop (n + at) s) n at, ← drop-drop at n s)
      (place-moved n (length (drop n s)) (length s) (nul_within room (drop at (drop n s)) at) (omega arith)))

-- a name that is found lies in the bytes up to its end
pub name-own : (room : ℕ) (s : List ℕ) (at next end : ℕ) → next ≤ end → nul_within room (drop at s) at ≡ ok next
    → (name_at room (take end s) at).bytes ≡ (name_at room s at).bytes
unfolding name_at held_bytes
name-own room s at next end before e =
    let ends = given-ends room s at next e in
    let own = nul-own room (drop at s) at next (end - at) (omega arith) e in
    rw (drop-take at end s, own, e, take-take (next - at) (end - at) (drop at s) (omega arith))
