-- A start just before a good frame that stays undecided makes the frame late.
use mathlib.Core.Path.{◌≡◌, refl}
use mathlib.Core.Bool.{Bool, true, false, ◌&&◌, cond}
use mathlib.Core.List.{List, [], ◌∷◌, ◌++◌}
use Prim.Native.Nat.{ℕ, ◌<◌, ◌≤◌}
use native.Mathlib.Omega.{arith}
use borrow.Author.Tests.{ltb-true, ltb-false, le-ltb}
use lib.Dec.{eqb, ltb}
use lib.ListN.{length, length-append}
use Rattle.refusals.proofs.Different.{none}
use Rattle.stream.specs.Reading.{Verdict, good, not_yet, moves_on, Steady, Bounded, read_turns, read_from}
use Rattle.stream.specs.OneBefore.{four_tell, OneBefore}
use Rattle.stream.proofs.Frames.{not-among-none}
use Rattle.stream.proofs.Lateness.{bound-told}

-- the verdict by the tests: a 1, a 2, fewer than four bytes
abbrev verdict : Bool → Bool → Bool → Verdict Unit
verdict one two few = cond one (good 1 tt) (cond (two && few) not_yet moves_on)

waits-few : (one two few : Bool) → verdict one two few ≡ not_yet → few ≡ true
waits-few true two few e = none (cc)
waits-few false false few e = none (cc)
waits-few false true true e = refl
waits-few false true false e = none (cc)

one_byte : (one two few : Bool) (n : ℕ) (r : Unit) → verdict one two few ≡ good n r → n ≡ 1
one_byte true two few n r e = cc
one_byte false false few n r e = none (cc)
one_byte false true true n r e = none (cc)
one_byte false true false n r e = none (cc)

-- more bytes leave a verdict that is there as it is
kept : (one two few fewer : Bool) → (few ≡ false → fewer ≡ false) → (verdict one two few ≡ not_yet → ⊥) → verdict one two fewer ≡ verdict one two few
kept true two few fewer many told = refl
kept false false few fewer many told = refl
kept false true true fewer many told = absurd (told refl)
kept false true false fewer many told = rw (many refl)

steady : Steady four_tell
steady = record { prefix = prefix; sized = sized; empty = refl }
  where
    prefix : (xs ys : List ℕ) → (four_tell xs ≡ not_yet → ⊥) → four_tell (xs ++ ys) ≡ four_tell xs
    prefix [] ys told = absurd (told refl)
    prefix (x ∷ xs) ys told =
        kept (eqb x 1) (eqb x 2) (ltb (length xs) 3) (ltb (length (xs ++ ys)) 3)
        (λ many. le-ltb (length (xs ++ ys)) 3 (omega (arith, ltb-false (length xs) 3 many, length-append xs ys))) told

    sized : (xs : List ℕ) (n : ℕ) (r : Unit) → four_tell xs ≡ good n r → (0 < n) × (n ≤ length xs)
    sized [] n r e = none (cc)
    sized (x ∷ xs) n r e = let one = one_byte (eqb x 1) (eqb x 2) (ltb (length xs) 3) n r e in (omega arith, omega arith)

bounded : Bounded four_tell 4
bounded = record { told = told }
  where
    told : (xs : List ℕ) → 4 ≤ length xs → four_tell xs ≡ not_yet → ⊥
    told [] enough e = omega arith
    told (x ∷ xs) enough e = omega (arith, ltb-true (length xs) 3 (waits-few (eqb x 1) (eqb x 2) (ltb (length xs) 3) e))

pub one-before : OneBefore
unfolding read_from read_turns
one-before =
    record {
      steady = steady;
      others = λ k some l n r stands enough. bounded.told l (omega arith);
      all = bound-told four_tell 4 bounded;
      late = λ sooner. not-among-none (sooner 1 1 tt refl ((λ earlier. absurd (omega arith)), tt) (omega arith) (omega arith)) refl;
    }
