-- What is known of an answer: that it is no IncompleteData, that more bytes leave it as it is, and what a given one was made from. Each is shown
-- once for each combinator of specs/Answers.antt.
use mathlib.Core.Path.{◌≡◌, refl, ap}
use mathlib.Core.Bool.{Bool, true, false}
use Prim.Native.Nat.{ℕ}
use Rattle.refusals.specs.Refusals.{Refusal, Answer, ok, refused, incomplete_data}
use Rattle.refusals.proofs.Different.{none}
use Rattle.refusals.specs.Answers.{and_then, unless}

-- ---- no IncompleteData

abbrev pub Known : {A : Type 0} → Answer A → Type 0
Known answer = answer ≡ refused incomplete_data → ⊥

number_of : {A : Type 0} → Answer A → ℕ
number_of (ok value) = 0
number_of (refused why) = why.number

pub known-refused : {A : Type 0} (why : Refusal) → (why.number ≡ 1 → ⊥) → Known {A = A} (refused why)
unfolding number_of
known-refused why differs e = differs (ap number_of e)

pub known-given : {A : Type 0} (value : A) → Known (ok value)
known-given value e = none (cc)

pub known-then
    : {A B : Type 0} (answer : Answer A) (next : A → Answer B) → Known answer → ((value : A) → answer ≡ ok value → Known (next value))
    → Known (and_then answer next)
known-then (ok value) next known on = on value refl
known-then (refused why) next known on = λ e. known (cc)

pub known-unless
    : {A : Type 0} (test : Bool) (why : Refusal) (next : Answer A) → (why.number ≡ 1 → ⊥) → (test ≡ true → Known next)
    → Known (unless test why next)
known-unless true why next differs on = on refl
known-unless false why next differs on = known-refused why differs

-- ---- more bytes leave it as it is

abbrev pub Kept : {A : Type 0} → Answer A → Answer A → Type 0
Kept before after = Known before → after ≡ before

pub Kept-then
    : {A B : Type 0} (before after : Answer A) (next next-after : A → Answer B) → Kept before after
    → ((value : A) → before ≡ ok value → Kept (next value) (next-after value)) → Kept (and_then before next) (and_then after next-after)
Kept-then (ok value) after next next-after kept on known = rw (kept (known-given value)) (on value refl known)
Kept-then (refused why) after next next-after kept on known = rw (kept (λ e. known (cc)))

pub kept-unless
    : {A : Type 0} (test : Bool) (why : Refusal) (next next-after : Answer A) → (test ≡ true → Kept next next-after)
    → Kept (unless test why next) (unless test why next-after)
kept-unless true why next next-after kept = kept refl
kept-unless false why next next-after kept = λ known. refl

-- ---- what a given one was made from

pub given-same : {A : Type 0} {value result : A} → ok value ≡ ok result → value ≡ result
given-same e = cc

pub record Made {A B : Type 0} (answer : Answer A) (next : A → Answer B) (result : B) : Type 0 where
  pub value : A
  pub first : answer ≡ ok value
  pub second : next value ≡ ok result

pub given-then
    : {A B : Type 0} (answer : Answer A) (next : A → Answer B) (result : B) → and_then answer next ≡ ok result → Made answer next result
given-then (ok value) next result e = record { value = value; first = refl; second = e }
given-then (refused why) next result e = none (cc)

pub record Held {A : Type 0} (test : Bool) (next : Answer A) (result : A) : Type 0 where
  pub holds : test ≡ true
  pub then : next ≡ ok result

pub given-unless
    : {A : Type 0} (test : Bool) (why : Refusal) (next : Answer A) (result : A) → unless test why next ≡ ok result → Held test next result
given-unless true why next result e = record { holds = refl; then = e }
given-unless false why next result e = none (cc)
