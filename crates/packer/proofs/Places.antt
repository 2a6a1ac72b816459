-- A read at a place: what follows from the test that its bytes are there, and a value made from the value read; bytes as they stand, and a part lent.
use mathlib.Core.Path.{◌≡◌, refl, ap, ◌∙◌}
use mathlib.Core.Bool.{Bool, true, false, cond}
use mathlib.Core.List.{List}
use Prim.Native.Nat.{ℕ, ◌+◌, ◌-◌, ◌≤◌, ◌<◌}
use native.Mathlib.Nat.{le_of_eq}
use native.Mathlib.Omega.{arith}
use lib.Dec.{leb}
use lib.ListN.{length, take, drop, length-drop}
use lib.Seq.{take_all}
use borrow.Author.Tests.{le-leb, lt-leb, leb-true, leb-false}
use Rattle.std.specs.Prelude.{ok_or}
use Rattle.std.specs.Prelude.{Some, None}
use Rattle.refusals.specs.Refusals.{Answer, Refusal, ok, refused, consumed, incomplete_data, buffer_too_small}
use Rattle.refusals.specs.declared.DecodeError.TheVariants.{IncompleteData}
use Rattle.refusals.specs.declared.EncodeError.TheVariants.{BufferTooSmall}
use Rattle.refusals.proofs.Different.{none}
use Rattle.packer.specs.Unpacking.{read_at, consume_at, end_within}
use Rattle.packer.specs.Packing.{packed, room_at}

pub got : {A : Type 0} (width : ℕ) (value : A) (s : List ℕ) (at : ℕ) → at + width ≤ length s → read_at width value s at ≡ ok (value, at + width)
unfolding read_at
got width value s at h = rw (le-leb (at + width) (length s) h)

pub lacking : {A : Type 0} (width : ℕ) (value : A) (s : List ℕ) (at : ℕ) → length s < at + width → read_at width value s at ≡ refused incomplete_data
unfolding read_at
lacking width value s at h = rw (lt-leb (at + width) (length s) h)

-- a read that was answered
pub read-given : {A : Type 0} (width : ℕ) (value : A) (s : List ℕ) (at : ℕ) (r : A × ℕ) → read_at width value s at ≡ ok r
    → (at + width ≤ length s) × ((value, at + width) ≡ r)
unfolding read_at
read-given {A} width value s at r e = go (leb (at + width) (length s)) refl e
  where
    go : (b : Bool) → leb (at + width) (length s) ≡ b → cond b (ok (value, at + width)) (refused incomplete_data) ≡ ok r
        → (at + width ≤ length s) × ((value, at + width) ≡ r)
    go true t e = (leb-true (at + width) (length s) t, cc)
    go false t e = none (cc)

-- an answer with its value put through a function
abbrev through : {A B : Type 0} → (A → B) → Answer (A × ℕ) → Answer (B × ℕ)
through f (ok (value, next)) = ok (f value, next)
through f (refused r) = refused r

read_through : {A B : Type 0} (f : A → B) (width : ℕ) (value : A) (s : List ℕ) (at : ℕ) → through f (read_at width value s at) ≡ read_at width (f value) s at
unfolding read_at
read_through f width value s at = go (leb (at + width) (length s))
  where
    go : (b : Bool) → through f (cond b (ok (value, at + width)) (refused incomplete_data)) ≡ cond b (ok (f value, at + width)) (refused incomplete_data)
    go true = refl
    go false = refl

pub made : {A B : Type 0} (f : A → B) (width : ℕ) (value : A) (s : List ℕ) (at next : ℕ) (n : A) (x : B) → x ≡ f n
    → ok (n, next) ≡ read_at width value s at → ok (x, next) ≡ read_at width (f value) s at
made {B} f width value s at next n x e h = ap (λ (y : B). ok (y, next)) e ∙ ap (through f) h ∙ read_through f width value s at

pub not_made : {A B : Type 0} (f : A → B) (width : ℕ) (value : A) (s : List ℕ) (at : ℕ) (r : Refusal)
    → refused r ≡ read_at width value s at → refused r ≡ read_at width (f value) s at
not_made f width value s at r h = ap (through f) h ∙ read_through f width value s at

-- ---- bytes as they stand
pub bytes-got : (width : ℕ) (s : List ℕ) (at : ℕ) → at + width ≤ length s → consume_at width s at ≡ ok (at + width)
unfolding consume_at
bytes-got width s at h = rw (le-leb (at + width) (length s) h)

pub bytes-lacking : (width : ℕ) (s : List ℕ) (at : ℕ) → length s < at + width → consume_at width s at ≡ refused incomplete_data
unfolding consume_at
bytes-lacking width s at h = rw (lt-leb (at + width) (length s) h)

-- what a copy of twelve of them over twelve zeros leaves
pub copied-twelve : (s : List ℕ) (at : ℕ) → take (at + 12 - at) (drop at s) ≡ take 12 (drop at s)
copied-twelve s at = let e : at + 12 - at ≡ 12 = omega arith in rw e

-- ---- a place that was given, or not: `consume` and `reserve`
module _ (width : ℕ) (s : List ℕ) (at : ℕ) where
  pub told-consume : consumed (ok_or (end_within (length s) at width) IncompleteData) ≡ consume_at width s at
  unfolding consume_at
  told-consume = go (leb (at + width) (length s))
    where
      go : (b : Bool) → consumed (ok_or (cond b (Some (at + width)) None) IncompleteData) ≡ cond b (ok (at + width)) (refused incomplete_data)
      go true = refl
      go false = refl

  pub told-reserve : packed (ok_or (end_within (length s) at width) BufferTooSmall) ≡ room_at width s at
  unfolding room_at
  told-reserve = go (leb (at + width) (length s))
    where
      go : (b : Bool) → packed (ok_or (cond b (Some (at + width)) None) BufferTooSmall) ≡ cond b (ok (at + width)) (refused buffer_too_small)
      go true = refl
      go false = refl

-- what a test was that answered with a refusal
module _ (place : ℕ) (why no : Refusal) where
  stopped : (b : Bool) → refused no ≡ cond b (ok place) (refused why) → (b ≡ false) × (no ≡ why)
  stopped true e = none (cc)
  stopped false e = (refl, cc)

-- the bytes are not there, and neither is the room
pub record Outside (width : ℕ) (s : List ℕ) (at : ℕ) (no why : Refusal) : Type 0 where
  pub lacks : length s < at + width
  pub says : no ≡ why

pub not_there : {width : ℕ} {s : List ℕ} {at : ℕ} {no : Refusal} → refused no ≡ consume_at width s at → Outside width s at no incomplete_data
unfolding consume_at
not_there {width} {s} {at} {no} e =
    let p = stopped (at + width) incomplete_data no (leb (at + width) (length s)) e in
    record { lacks = leb-false (at + width) (length s) p.0; says = p.1 }

pub not_roomy : {width : ℕ} {s : List ℕ} {at : ℕ} {no : Refusal} → refused no ≡ room_at width s at → Outside width s at no buffer_too_small
unfolding room_at
not_roomy {width} {s} {at} {no} e =
    let p = stopped (at + width) buffer_too_small no (leb (at + width) (length s)) e in
    record { lacks = leb-false (at + width) (length s) p.0; says = p.1 }

-- the part from a place to the end, as it is lent
pub lent-whole : (n : ℕ) (s : List ℕ) → take (length s - n) (drop n s) ≡ drop n s
lent-whole n s = take_all (length s - n) (drop n s) (le_of_eq (length-drop n s))
