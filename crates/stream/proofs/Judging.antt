-- The judge that a `decode` makes: its verdict by the answer, and what makes it steady and bounded.
use mathlib.Core.Path.{◌≡◌, refl, ap}
use mathlib.Core.Bool.{Bool, true, false, cond, and-eq-true_iff}
use mathlib.Core.List.{List, [], ◌∷◌, ◌++◌}
use Prim.Native.Nat.{ℕ, ◌<◌, ◌≤◌}
use native.Mathlib.Omega.{arith}
use borrow.Author.Tests.{eqb-true, ne_eqb}
use lib.Dec.{eqb}
use lib.ListN.{length}
use Rattle.refusals.specs.Refusals.{Refusal, Answer, ok, refused, incomplete_data}
use Rattle.refusals.proofs.Different.{none}
use Rattle.stream.specs.Reading.{Verdict, good, not_yet, moves_on, Steady, Bounded}
use Rattle.stream.specs.Judging.{is_incomplete_data, verdict_of, judge_by}

-- ---- what a verdict was made from

no-values : (values : List ℕ) → length values ≡ 0 → values ≡ []
no-values [] e = refl
no-values (value ∷ values) e = absurd (omega arith)

incomplete-is : (why : Refusal) → is_incomplete_data why ≡ true → why ≡ incomplete_data
incomplete-is why e =
    let both = (and-eq-true_iff (eqb why.number 1) (eqb (length why.values) 0)).0 e in
    let number = eqb-true why.number 1 both.0 in
    let values = no-values why.values (eqb-true (length why.values) 0 both.1) in
    λ i. record { number = number i; values = values i }

module _ {R : Type 0} where
  waits-by : (a : Answer ℕ) (reply : R) → verdict_of a reply ≡ not_yet → a ≡ refused incomplete_data
  waits-by (ok count) reply e = none (cc)
  waits-by (refused why) reply e = ap refused (incomplete-is why (stops (is_incomplete_data why) e))
    where
      stops : (b : Bool) → ◌≡◌ {A = Verdict R} (cond b not_yet moves_on) not_yet → b ≡ true
      stops true q = refl
      stops false q = none (cc)

  takes-by : (a : Answer ℕ) (reply : R) (n : ℕ) (r : R) → verdict_of a reply ≡ good n r → a ≡ ok n
  takes-by (ok count) reply n r e = cc
  takes-by (refused why) reply n r e = never (is_incomplete_data why) e
    where
      never : (b : Bool) → cond b not_yet moves_on ≡ good n r → refused why ≡ ok n
      never true q = none (cc)
      never false q = none (cc)

-- ---- the judge of a `decode`

-- what is asked of it: a result other than IncompleteData stands when bytes are appended; a good frame has a byte, and lies within; no bytes are
-- incomplete
pub record Decodes {R : Type 0} (answer : List ℕ → Answer ℕ) (reply : List ℕ → R) : Type 0 where
  pub prefix : (xs ys : List ℕ) → (answer xs ≡ refused incomplete_data → ⊥) → (answer (xs ++ ys) ≡ answer xs) × (reply (xs ++ ys) ≡ reply xs)
  pub sized : (xs : List ℕ) (n : ℕ) → answer xs ≡ ok n → (0 < n) × (n ≤ length xs)
  pub empty : answer [] ≡ refused incomplete_data

module _ {R : Type 0} (answer : List ℕ → Answer ℕ) (reply : List ℕ → R) where
  pub judged-good : (l : List ℕ) (n : ℕ) → answer l ≡ ok n → judge_by answer reply l ≡ good n (reply l)
  judged-good l n e = ap (λ (a : Answer ℕ). verdict_of a (reply l)) e

  pub judged-waits : (l : List ℕ) → answer l ≡ refused incomplete_data → judge_by answer reply l ≡ not_yet
  judged-waits l e = ap (λ (a : Answer ℕ). verdict_of a (reply l)) e

  pub judged-moves : (l : List ℕ) (why : Refusal) → answer l ≡ refused why → (why.number ≡ 1 → ⊥) → judge_by answer reply l ≡ moves_on
  judged-moves l why e other = rw (e, ne_eqb why.number 1 other)

  -- and what a verdict tells of the answer
  pub waits-answer : (l : List ℕ) → judge_by answer reply l ≡ not_yet → answer l ≡ refused incomplete_data
  waits-answer l e = waits-by (answer l) (reply l) e

  pub good-answer : (l : List ℕ) (n : ℕ) (r : R) → judge_by answer reply l ≡ good n r → answer l ≡ ok n
  good-answer l n r e = takes-by (answer l) (reply l) n r e

  pub judge-steady : Decodes answer reply → Steady (judge_by answer reply)
  judge-steady d =
      record {
        prefix = λ xs ys told. let e = d.prefix xs ys (λ q. told (judged-waits xs q)) in λ i. verdict_of (e.0 i) (e.1 i);
        sized = λ xs n r e. d.sized xs n (good-answer xs n r e);
        empty = judged-waits [] d.empty;
      }

  pub judge-bounded : (bound : ℕ) → ((xs : List ℕ) → bound ≤ length xs → answer xs ≡ refused incomplete_data → ⊥) → Bounded (judge_by answer reply) bound
  judge-bounded bound full = record { told = λ xs enough e. full xs enough (waits-answer xs e) }
