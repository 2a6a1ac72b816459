-- Where the place after a name's NUL lies, for every room.
use mathlib.Core.Path.{◌≡◌, sym, ap, ◌∙◌}
use mathlib.Core.Bool.{Bool, true, false, cond}
use mathlib.Core.List.{List, [], ◌∷◌}
use mathlib.Core.Logic.{⊎_elim, ◌⊎◌, inl, inr}
use Prim.Native.Nat.{ℕ, zero, suc, ◌+◌, ◌≤◌, ◌<◌}
use native.Mathlib.Omega.{arith}
use lib.Dec.{eqb}
use lib.ListN.{length, drop, length-drop}
use Rattle.refusals.specs.Refusals.{Answer, ok}
use Rattle.refusals.proofs.Different.{none}
use Rattle.std.specs.Prelude.{Result, Ok}
use Rattle.refusals.specs.declared.DecodeError.{DecodeError}
use Rattle.names.specs.Names.{nul_within}
use Rattle.refusals.specs.Refusals.{consumed}

-- a choice that gives n gives it on one side
picked : (b : Bool) (m n : ℕ) (on : Answer ℕ) → cond b (ok m) on ≡ ok n → (m ≡ n) ⊎ (on ≡ ok n)
picked true m n on e = inl (cc)
picked false m n on e = inr e

-- a next place that lies after a place, inside its room and inside the bytes, which end at `end`
pub record Ends (room end place next : ℕ) : Type 0 where
  pub after : place < next
  pub roomy : next ≤ place + room
  pub inside : next ≤ end

-- so does a given place, of the bytes left
pub given-lies : (room : ℕ) (left : List ℕ) (place next : ℕ) → nul_within room left place ≡ ok next → Ends room (place + length left) place next
unfolding nul_within
given-lies zero left place next e = none (cc)
given-lies (suc room) [] place next e = none (cc)
given-lies (suc room) (byte ∷ left) place next e =
    ⊎_elim (λ here. record { after = omega arith; roomy = omega arith; inside = omega arith })
    (λ on.
    let rest = given-lies room left (place + 1) next on in
    record { after = omega arith; roomy = omega arith; inside = omega arith })
    (picked (eqb byte 0) (place + 1) next (nul_within room left (place + 1)) e)

-- the same of a scan from a place of the bytes
pub given-ends : (room : ℕ) (bytes : List ℕ) (place next : ℕ) → nul_within room (drop place bytes) place ≡ ok next → Ends room (length bytes) place next
given-ends room bytes place next e =
    let lies = given-lies room (drop place bytes) place next e in
    let left = length-drop place bytes in
    record { after = omega arith; roomy = omega arith; inside = omega arith }

-- the same of a scan that found its place
pub found-ends
    : (room : ℕ) (bytes : List ℕ) (place next : ℕ) {scan : Result ℕ DecodeError} → consumed scan ≡ nul_within room (drop place bytes) place → scan ≡ Ok next
    → Ends room (length bytes) place next
found-ends room bytes place next answer found = given-ends room bytes place next (sym answer ∙ ap consumed found)

-- the same as facts, for the tactics
pub nul_ends : (room : ℕ) (bytes : List ℕ) (place next : ℕ) → ok next ≡ nul_within room (drop place bytes) place → (place < next) × (next ≤ place + room) × (next ≤ length bytes)
nul_ends room bytes place next e = let ends = given-ends room bytes place next (sym e) in (ends.after, ends.roomy, ends.inside)
