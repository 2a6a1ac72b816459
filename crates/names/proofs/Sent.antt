-- How many bytes are sent of a name: what such a name is, that a name that was read is one, and that it is read where it was sent.
use mathlib.Core.Path.{◌≡◌, refl, sym, ap, ap₂, ◌∙◌}
use mathlib.Core.Bool.{Bool, true, false, ◌&&◌}
use mathlib.Core.List.{List, [], ◌∷◌, ◌++◌}
use Prim.Native.Nat.{ℕ, zero, suc, ◌+◌, ◌-◌, ◌≤◌}
use native.Mathlib.Nat.{add-zero}
use native.Mathlib.Omega.{arith}
use lib.Dec.{eqb}
use lib.ListN.{length, take, drop, replicate, length-append, length-replicate, length-drop, take-append-drop}
use lib.Seq.{take_at, drop_at, length-take-le}
use borrow.Author.Tests.{eqb-true}
use Rattle.refusals.specs.Refusals.{Answer, ok, refused, bad_name}
use Rattle.refusals.proofs.Different.{none}
use Rattle.refusals.proofs.Answers.{known-given, given-same, given-unless}
use Rattle.names.specs.Names.{nul_within, held_bytes, name_at, all_zero, sent_through, sent_of}
use Rattle.names.proofs.Places.{given-lies, given-ends}
use Rattle.names.proofs.Prefix.{nul-prefix, nul-own}
use Rattle.names.proofs.Moved.{moved, nul-moved}

-- ---- zeros

pub zeros-all : (n : ℕ) → all_zero (replicate n 0) ≡ true
unfolding all_zero
zeros-all zero = refl
zeros-all (suc n) = zeros-all n

both : (a b : Bool) → a && b ≡ true → (a ≡ true) × (b ≡ true)
both true b e = (refl, e)
both false b e = none (cc)

pub all-zeros : (l : List ℕ) → all_zero l ≡ true → l ≡ replicate (length l) 0
unfolding all_zero
all-zeros [] e = refl
all-zeros (byte ∷ bytes) e =
    let two = both (eqb byte 0) (all_zero bytes) e in
    ap₂ (λ (x : ℕ) (l : List ℕ). x ∷ l) (eqb-true byte 0 two.0) (all-zeros bytes two.1)

-- ---- a name of which so many bytes are sent

pub record Sent (room : ℕ) (held : List ℕ) (next : ℕ) : Type 0 where
  pub nul : nul_within room held 0 ≡ ok next
  pub some : 1 ≤ next
  pub roomy : next ≤ room
  pub inside : next ≤ length held
  pub zeros : drop next held ≡ replicate (length held - next) 0

through-given : (held : List ℕ) (answer : Answer ℕ) (next : ℕ) → sent_through held answer ≡ ok next → (answer ≡ ok next) × (all_zero (drop next held) ≡ true)
unfolding sent_through
through-given held (ok place) next e =
    let test = given-unless (all_zero (drop place held)) bad_name (ok place) next e in
    (test.then, rw (← given-same test.then) test.holds)
through-given held (refused why) next e = none (cc)

pub sent-given : (room : ℕ) (held : List ℕ) (next : ℕ) → sent_of room held ≡ ok next → Sent room held next
unfolding sent_of
sent-given room held next e =
    let test = through-given held (nul_within room held 0) next e in
    let lies = given-lies room held 0 next test.0 in
    record {
      nul = test.0;
      some = omega arith;
      roomy = omega arith;
      inside = omega arith;
      zeros = all-zeros (drop next held) test.1 ∙ ap (λ (n : ℕ). replicate n 0) (length-drop next held);
    }

-- the other way
pub given-sent : (room : ℕ) (held : List ℕ) (next n : ℕ) → nul_within room held 0 ≡ ok next → drop next held ≡ replicate n 0 → sent_of room held ≡ ok next
unfolding sent_of sent_through
given-sent room held next n nul zeros = rw (nul, zeros, zeros-all n)

-- ---- the bytes through a NUL

-- a scan of them, whatever follows
nul-front : (room : ℕ) (left more : List ℕ) (k : ℕ) → nul_within room left 0 ≡ ok k → nul_within room (take k left ++ more) 0 ≡ ok k
nul-front room left more k e =
    let own = nul-own room left 0 k k (omega arith) e in
    nul-prefix room (take k left) more 0 (rw own (known-given k)) ∙ own

moved-given : (answer : Answer ℕ) (by end : ℕ) → moved by answer ≡ ok end → answer ≡ ok (end - by)
moved-given (ok next) by end e = let z : by + next ≡ end = given-same e in ap ok (omega arith)
moved-given (refused why) by end e = none (cc)

-- ---- a name that was read

module _ (room : ℕ) (s : List ℕ) (at end : ℕ) (e : nul_within room (drop at s) at ≡ ok end) where
  scan : nul_within room (drop at s) 0 ≡ ok (end - at)
  scan = moved-given _ at end (sym (nul-moved room (drop at s) at 0) ∙ rw add-zero e)

  size : length (take (end - at) (drop at s)) ≡ end - at
  size = let lies = given-lies room (drop at s) 0 (end - at) scan in length-take-le (end - at) (drop at s) (omega arith)

  held-is : (name_at room s at).bytes ≡ take (end - at) (drop at s) ++ replicate (room - (end - at)) 0
  unfolding name_at held_bytes
  held-is = rw e

  -- it fills its room, and as many bytes are sent of it as were read
  pub name-fits : (length (name_at room s at).bytes ≡ room) × (sent_of room (name_at room s at).bytes ≡ ok (end - at))
  name-fits =
      let lies = given-ends room s at end e in
      let front = take (end - at) (drop at s) in
      let zeros : List ℕ = replicate (room - (end - at)) 0 in
      rw held-is (
        omega (arith, length-append front zeros, size, length-replicate {A = ℕ} (room - (end - at)) 0),
        given-sent room (front ++ zeros) (end - at) (room - (end - at)) (nul-front room (drop at s) zeros (end - at) scan)
            (drop_at front zeros (end - at) size),
      )

  -- and these are those that were read
  pub name-here : take (end - at) (name_at room s at).bytes ≡ take (end - at) (drop at s)
  name-here = rw held-is (take_at (take (end - at) (drop at s)) (replicate (room - (end - at)) 0) (end - at) size)

-- ---- a name that is sent, where its bytes stand

module _ (room : ℕ) (held : List ℕ) (next : ℕ) (sent : sent_of room held ≡ ok next) where
  module _ (s rest : List ℕ) (at : ℕ) (here : drop at s ≡ take next held ++ rest) where
    -- it ends there
    pub sent-ends : nul_within room (drop at s) at ≡ ok (at + next)
    sent-ends =
        rw add-zero at (nul-moved room (drop at s) at 0)
        ∙ ap (λ (l : List ℕ). moved at (nul_within room l 0)) here
        ∙ ap (moved at) (nul-front room held rest next (sent-given room held next sent).nul)

    -- and is read as it was
    pub sent_back : length held ≡ room → (name_at room s at).bytes ≡ held
    sent_back long =
        let is = sent-given room held next sent in
        let n : at + next - at ≡ next = omega arith in
        let front = take_at (take next held) rest next (length-take-le next held is.inside) in
        rw n at (held-is room s at (at + next) sent-ends)
        ∙ rw (here, front, ← long, ← is.zeros) (take-append-drop next held)
