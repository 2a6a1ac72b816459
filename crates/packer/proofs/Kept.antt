-- Reads at a place: what is there is given, and it stays the same with more bytes.
use mathlib.Core.Path.{◌≡◌, refl, ap}
use mathlib.Core.Bool.{Bool, true, false, cond}
use mathlib.Core.List.{List, ◌++◌}
use Prim.Native.Nat.{ℕ, ◌+◌, ◌≤◌, ◌<◌}
use native.Mathlib.Omega.{arith}
use lib.Dec.{leb}
use lib.ListN.{length, take, length-append, length-take}
use borrow.Author.Tests.{le-leb, leb-true, leb-false}
use Rattle.refusals.specs.Refusals.{Refusal, Answer, ok, refused, incomplete_data}
use Rattle.refusals.proofs.Different.{none}
use Rattle.refusals.proofs.Answers.{Known, Kept, known-given}
use Rattle.packer.specs.Numbers.{be_at}
use Rattle.packer.specs.Unpacking.{read_at, unsigned_at, consume_at}
use Rattle.packer.proofs.Places.{got}
use Rattle.packer.proofs.Numbers.{number-prefix}

-- ---- what a read's test decides

abbrev pub Read : {A : Type 0} → Bool → A → Answer A
Read there value = cond there (ok value) (refused incomplete_data)

pub read_kept
    : {A : Type 0} (there more : Bool) (value after : A) → (there ≡ true → (more ≡ true) × (after ≡ value)) → Known (Read there value)
    → Read more after ≡ Read there value
read_kept true more value after stays known = rw ((stays refl).0, (stays refl).1)
read_kept false more value after stays known = absurd (known refl)

pub test-given : {A : Type 0} (there : Bool) (value result : A) → Read there value ≡ ok result → (there ≡ true) × (value ≡ result)
test-given true value result e = (refl, cc)
test-given false value result e = none (cc)

-- ---- how many bytes there are

-- more bytes hold as much
pub more-there : (m : ℕ) (xs ys : List ℕ) → m ≤ length xs → m ≤ length (xs ++ ys)
more-there m xs ys there = simp length-append (omega arith)

-- so do the first of them, where they reach that far
pub own-there : (m end : ℕ) (xs : List ℕ) → m ≤ end → m ≤ length xs → m ≤ length (take end xs)
own-there m end xs before there = simp length-take (omega arith)

-- ---- a number

pub number-known : (width : ℕ) (s : List ℕ) (at : ℕ) → at + width ≤ length s → Known (unsigned_at width s at)
number-known width s at there = rw (got width (be_at s at width) s at there) (known-given (be_at s at width, at + width))

pub number-kept : (width : ℕ) (xs ys : List ℕ) (at : ℕ) → Kept (unsigned_at width xs at) (unsigned_at width (xs ++ ys) at)
unfolding read_at
number-kept width xs ys at =
    read_kept (leb (at + width) (length xs)) (leb (at + width) (length (xs ++ ys))) (be_at xs at width, at + width) (be_at (xs ++ ys) at width, at + width)
    (λ t. let there = leb-true (at + width) (length xs) t in (
      le-leb (at + width) (length (xs ++ ys)) (more-there (at + width) xs ys there),
      ap (λ (n : ℕ). (n, at + width)) (number-prefix xs ys at width there),
    ))

-- ---- bytes as they stand

pub bytes-given
    : (width : ℕ) (s : List ℕ) (at next : ℕ) → consume_at width s at ≡ ok next → (at + width ≤ length s) × (at + width ≡ next)
unfolding consume_at
bytes-given width s at next e =
    let read = test-given (leb (at + width) (length s)) (at + width) next e in
    (leb-true (at + width) (length s) read.0, read.1)

pub bytes-kept : (width : ℕ) (xs ys : List ℕ) (at : ℕ) → Kept (consume_at width xs at) (consume_at width (xs ++ ys) at)
unfolding consume_at
bytes-kept width xs ys at =
    read_kept (leb (at + width) (length xs)) (leb (at + width) (length (xs ++ ys))) (at + width) (at + width)
    (λ t. (le-leb (at + width) (length (xs ++ ys)) (more-there (at + width) xs ys (leb-true (at + width) (length xs) t)), refl))

-- a read that was refused
pub read-refused : {A : Type 0} (width : ℕ) (value : A) (s : List ℕ) (at : ℕ) (why : Refusal) → read_at width value s at ≡ refused why
    → (length s < at + width) × (why ≡ incomplete_data)
unfolding read_at
read-refused {A} width value s at why e = go (leb (at + width) (length s)) refl e
  where
    go : (b : Bool) → leb (at + width) (length s) ≡ b → cond {A = Answer (A × ℕ)} b (ok (value, at + width)) (refused incomplete_data) ≡ refused why
        → (length s < at + width) × (why ≡ incomplete_data)
    go true t e = none (cc)
    go false t e = (leb-false (at + width) (length s) t, cc)
