-- More bytes change no answer but IncompleteData, `room` bytes are enough for an answer other than that, and no byte after the NUL is looked at.
use mathlib.Core.Path.{◌≡◌, refl, ap}
use mathlib.Core.Bool.{Bool, true, false, cond}
use mathlib.Core.List.{List, [], ◌∷◌, ◌++◌}
use Prim.Native.Nat.{ℕ, zero, suc, ◌+◌, ◌-◌, ◌≤◌}
use native.Mathlib.Omega.{arith}
use lib.Dec.{eqb}
use lib.ListN.{length, take, drop}
use lib.Seq.{take-nil}
use Rattle.refusals.specs.Refusals.{Refusal, Answer, ok, refused, incomplete_data, invalid_frame}
use Rattle.refusals.proofs.Different.{none}
use Rattle.names.specs.Names.{nul_within}
use Rattle.names.proofs.Places.{given-lies}

-- a choice whose second side more bytes do not change
cond-prefix
    : (b : Bool) (here on more : Answer ℕ) → ((on ≡ refused incomplete_data → ⊥) → more ≡ on)
    → (cond b here on ≡ refused incomplete_data → ⊥) → cond b here more ≡ cond b here on
cond-prefix true here on more same known = refl
cond-prefix false here on more same known = same known

-- a scan that is answered is answered the same with more bytes
pub nul-prefix
    : (room : ℕ) (left more : List ℕ) (place : ℕ) → (nul_within room left place ≡ refused incomplete_data → ⊥)
    → nul_within room (left ++ more) place ≡ nul_within room left place
unfolding nul_within
nul-prefix zero left more place known = refl
nul-prefix (suc room) [] more place known = absurd (known refl)
nul-prefix (suc room) (byte ∷ left) more place known =
    cond-prefix (eqb byte 0) (ok (place + 1)) _ _ (nul-prefix room left more (place + 1)) known

-- what is left of joined bytes from any place on
pub drop-joined : (n : ℕ) (xs ys : List ℕ) → drop n (xs ++ ys) ≡ drop n xs ++ drop (n - length xs) ys
drop-joined zero [] ys = refl
drop-joined (suc n) [] ys = let all : suc n - 0 ≡ suc n = omega arith in rw all
drop-joined zero (x ∷ xs) ys = let all : 0 - length (x ∷ xs) ≡ 0 = omega arith in rw all
drop-joined (suc n) (x ∷ xs) ys = let less : suc n - length (x ∷ xs) ≡ n - length xs = omega arith in rw less (drop-joined n xs ys)

-- the two refusals of a name have different numbers
apart : invalid_frame ≡ incomplete_data → ⊥
apart e = let z : ◌≡◌ {A = ℕ} 2 1 = ap (λ (r : Refusal). r.number) e in omega arith

-- a choice between a place and an answer that is not IncompleteData is not
cond-enough : (b : Bool) (next : ℕ) (on : Answer ℕ) → (on ≡ refused incomplete_data → ⊥) → cond b (ok next) on ≡ refused incomplete_data → ⊥
cond-enough true next on enough e = none (cc)
cond-enough false next on enough e = enough e

-- where as many bytes are left as there is room, no scan is IncompleteData
pub nul-enough : (room : ℕ) (left : List ℕ) (place : ℕ) → room ≤ length left → nul_within room left place ≡ refused incomplete_data → ⊥
unfolding nul_within
nul-enough zero left place enough e = apart (cc)
nul-enough (suc room) [] place enough e = absurd (omega arith)
nul-enough (suc room) (byte ∷ left) place enough e =
    cond-enough (eqb byte 0) (place + 1) _ (nul-enough room left (place + 1) (omega arith)) e

-- the end of the first j bytes is the front of the end
pub drop-take : (i j : ℕ) (l : List ℕ) → drop i (take j l) ≡ take (j - i) (drop i l)
drop-take zero j l = let all : j - 0 ≡ j = omega arith in rw all
drop-take (suc i) zero l = let no : 0 - suc i ≡ 0 = omega arith in rw no
drop-take (suc i) (suc j) [] = rw (take-nil)
drop-take (suc i) (suc j) (x ∷ l) = let less : suc j - suc i ≡ j - i = omega arith in rw less (drop-take i j l)

own-by
    : (b : Bool) (here next : ℕ) (on own : Answer ℕ) → (on ≡ ok next → own ≡ ok next) → cond b (ok here) on ≡ ok next
    → cond b (ok here) own ≡ ok next
own-by true here next on own same e = e
own-by false here next on own same e = same e

-- a scan looks at no byte after the NUL
pub nul-own
    : (room : ℕ) (left : List ℕ) (place next k : ℕ) → next ≤ place + k → nul_within room left place ≡ ok next
    → nul_within room (take k left) place ≡ ok next
unfolding nul_within
nul-own zero left place next k before e = none (cc)
nul-own (suc room) [] place next k before e = none (cc)
nul-own (suc room) (byte ∷ left) place next zero before e =
    let lies = given-lies (suc room) (byte ∷ left) place next e in absurd (omega arith)
nul-own (suc room) (byte ∷ left) place next (suc k) before e =
    own-by (eqb byte 0) (place + 1) next _ _ (nul-own room left (place + 1) next k (omega arith)) e
