-- A byte at a place and the payload: what is there is given, it stays the same with more bytes, and it does not hang on what follows it. And the
-- parts of the short frame by their places.
use mathlib.Core.Path.{◌≡◌, refl, ap}
use mathlib.Core.List.{List, [], ◌∷◌, ◌++◌}
use Prim.Native.Nat.{ℕ, zero, suc, ◌+◌, ◌≤◌, ◌<◌}
use native.Mathlib.Omega.{arith}
use lib.Dec.{ltb}
use lib.ListN.{length, get_or, take, drop, length-drop, get_or-append}
use lib.Seq.{take-append-le, drop-append-le, take-take, get_or-drop}
use borrow.Author.Tests.{lt-ltb, le-ltb, ltb-true}
use Rattle.refusals.specs.Refusals.{ok, refused, incomplete_data}
use Rattle.refusals.proofs.Answers.{Known, Kept, known-given}
use Rattle.packer.specs.Numbers.{be_at}
use Rattle.packer.specs.Nearness.{Bytes}
use Rattle.packer.proofs.Kept.{read_kept, test-given, more-there}
use Rattle.frame.specs.Frame.{short, declared, payload_in, carried, end_byte}
use Rattle.frame.specs.Opening.{byte_at, payload_part}

-- ---- a byte

pub byte-got : (s : List ℕ) (at : ℕ) → at < length s → byte_at s at ≡ ok (get_or s at 0)
unfolding byte_at
byte-got s at there = rw (lt-ltb at (length s) there)

pub byte-lacking : (s : List ℕ) (at : ℕ) → length s ≤ at → byte_at s at ≡ refused incomplete_data
unfolding byte_at
byte-lacking s at past = rw (le-ltb at (length s) past)

pub byte-given : (s : List ℕ) (at value : ℕ) → byte_at s at ≡ ok value → (at < length s) × (get_or s at 0 ≡ value)
unfolding byte_at
byte-given s at value e = let read = test-given (ltb at (length s)) (get_or s at 0) value e in (ltb-true at (length s) read.0, read.1)

pub byte-known : (s : List ℕ) (at : ℕ) → at < length s → Known (byte_at s at)
byte-known s at there = rw (byte-got s at there) (known-given (get_or s at 0))

pub byte-kept : (xs ys : List ℕ) (at : ℕ) → Kept (byte_at xs at) (byte_at (xs ++ ys) at)
unfolding byte_at
byte-kept xs ys at =
    read_kept (ltb at (length xs)) (ltb at (length (xs ++ ys))) (get_or xs at 0) (get_or (xs ++ ys) at 0)
    (λ t. let there = ltb-true at (length xs) t in
    (lt-ltb at (length (xs ++ ys)) (more-there (suc at) xs ys there), get_or-append xs ys 0 at there))

-- ---- the payload

pub payload-kept : (n : ℕ) (xs ys : List ℕ) → n + 2 ≤ length xs → payload_part n (xs ++ ys) ≡ payload_part n xs
unfolding payload_part
payload-kept n xs ys there =
    let two : 2 ≤ length xs = omega arith in
    let payload : n ≤ length (drop 2 xs) = simp length-drop (omega arith) in
    rw (drop-append-le 2 xs ys two, take-append-le n (drop 2 xs) ys payload)

-- it lies in the frame's own bytes
pub payload-own : (n end : ℕ) (s : List ℕ) → n + 2 ≤ end → payload_part n (take end s) ≡ payload_part n s
unfolding payload_part
payload-own n zero s before = absurd (omega arith)
payload-own n (suc zero) s before = absurd (omega arith)
payload-own n (suc (suc end)) [] before = refl
payload-own n (suc (suc end)) (x ∷ []) before = refl
payload-own n (suc (suc end)) (x ∷ y ∷ s) before = take-take n end s (omega arith)

-- ---- the bytes of a part are bytes

taken-byte : (n : ℕ) (s : List ℕ) (at : ℕ) → Bytes s → get_or (take n s) at 0 < 256
taken-byte zero s at b = omega arith
taken-byte (suc n) [] at b = omega arith
taken-byte (suc n) (first ∷ s) zero b = b 0
taken-byte (suc n) (first ∷ s) (suc at) b = taken-byte n s at (λ k. b (suc k))

pub bytes_drop : (n : ℕ) (s : List ℕ) → Bytes s → Bytes (drop n s)
bytes_drop n s b at = rw (get_or-drop n s at 0) (b (n + at))

pub payload-bytes : (s : List ℕ) → Bytes s → Bytes (payload_in short s)
unfolding payload_in
payload-bytes s b at = taken-byte (declared short s) (drop 2 s) at (bytes_drop 2 s b)

-- ---- the parts of the short frame

module _ (s : List ℕ) where
  pub declared-is : declared short s ≡ get_or s 1 0
  unfolding declared be_at
  declared-is = omega arith

  pub carried-is : carried short s ≡ be_at s (get_or s 1 0 + 2) 2
  unfolding carried
  carried-is = ap (λ (at : ℕ). be_at s at 2) (omega (arith, declared-is))

  pub payload-is : payload_in short s ≡ payload_part (get_or s 1 0) s
  unfolding payload_in payload_part
  payload-is = ap (λ (n : ℕ). take n (drop 2 s)) declared-is

  pub end_is : end_byte short s ≡ get_or s (get_or s 1 0 + 4) 0
  unfolding end_byte
  end_is = ap (λ (at : ℕ). get_or s at 0) (omega (arith, declared-is))
