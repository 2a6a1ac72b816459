-- Writes of bytes into a slice: the digits of a number from its last on, a write where there is room, and two writes that are one.
--
use mathlib.Core.Path.{◌≡◌, refl, sym, ap, ◌∙◌}
use mathlib.Core.List.{List, [], ◌∷◌, ◌++◌, append_assoc}
use Prim.Native.Nat.{ℕ, zero, suc, ◌+◌, ◌-◌, ◌/◌, ◌%◌, ◌≤◌, ◌<◌}
use native.Mathlib.Nat.{add-zero, add-suc, suc-add, not-suc-le-zero, mod-eq_of_lt}
use native.Mathlib.Omega.{arith}
use lib.ListN.{length, take, drop, set, length-append}
use lib.Seq.{sets, sets-eq, length-sets, set_comm, drop-drop}
use borrow.Author.Tests.{le-leb, lt-leb}
use Rattle.refusals.specs.Refusals.{ok, refused, encode_refusal, buffer_too_small}
use Rattle.packer.specs.Numbers.{big_endian}
use Rattle.packer.specs.Packing.{written, pack_answer, pack_after, PackIs}
use Rattle.std.specs.Prelude.{Result, Ok, Err}
use Rattle.refusals.specs.declared.EncodeError.{EncodeError}
use Rattle.refusals.specs.declared.EncodeError.TheVariants.{BufferTooSmall}

pub digits-length : (width n : ℕ) → length (big_endian width n) ≡ width
unfolding big_endian
digits-length zero n = refl
digits-length (suc width) n = length-append (big_endian width (n / 256)) (n % 256 ∷ []) ∙ rw (digits-length width (n / 256)) (omega arith)

-- a byte alone
pub byte : (n : ℕ) → n < 256 → big_endian 1 n ≡ n ∷ []
unfolding big_endian
byte n h = ap (λ (k : ℕ). k ∷ []) (mod-eq_of_lt h)

-- ---- bytes stored one after the other
sets-sets : (l : List ℕ) (at : ℕ) (p q : List ℕ) → sets (sets l at p) (at + length p) q ≡ sets l at (p ++ q)
sets-sets l at [] q = rw add-zero
sets-sets l at (a ∷ p) q = rw (add-suc, ← suc-add) (sets-sets (set l at a) (suc at) p q)

set-sets : (p l : List ℕ) (at j x : ℕ) → at + length p ≤ j → sets (set l j x) at p ≡ set (sets l at p) j x
set-sets [] l at j x h = refl
set-sets (a ∷ p) l at j x h =
    ap (λ (m : List ℕ). sets m (suc at) p) (set_comm l j at x a (λ e. omega arith)) ∙ set-sets p (set l at a) (suc at) j x (omega arith)

-- ---- the digits of a number, the last one stored first
last-first : (l : List ℕ) (at k rest : ℕ) → sets (set l (at + k) (rest % 256)) at (big_endian k (rest / 256)) ≡ sets l at (big_endian (suc k) rest)
unfolding big_endian
last-first l at k rest =
    let e : length (big_endian k (rest / 256)) ≡ k = digits-length k (rest / 256) in
    set-sets (big_endian k (rest / 256)) l at (at + k) (rest % 256) (omega arith)
    ∙ ap (λ (j : ℕ). set (sets l at (big_endian k (rest / 256))) j (rest % 256)) (omega arith)
    ∙ sets-sets l at (big_endian k (rest / 256)) (rest % 256 ∷ [])

pub turn : (l : List ℕ) (at k rest : ℕ) → 0 < k → sets (set l (at + (k - 1)) (rest % 256)) at (big_endian (k - 1) (rest / 256)) ≡ sets l at (big_endian k rest)
turn l at zero rest h = absurd (not-suc-le-zero h)
turn l at (suc k) rest h = let e : suc k - 1 ≡ k = omega arith in rw e (last-first l at k rest)

-- ---- a write with room for it
pub stored : (bytes l : List ℕ) (at : ℕ) → at + length bytes ≤ length l → sets l at bytes ≡ written l at bytes
unfolding written
stored bytes l at h = sets-eq bytes l at h

pub fits-answer : (bytes l : List ℕ) (at : ℕ) → at + length bytes ≤ length l → pack_answer bytes l at ≡ ok (at + length bytes)
unfolding pack_answer
fits-answer bytes l at h = rw (le-leb (at + length bytes) (length l) h)

pub fits_after : (bytes l : List ℕ) (at : ℕ) → at + length bytes ≤ length l → pack_after bytes l at ≡ written l at bytes
unfolding pack_after
fits_after bytes l at h = rw (le-leb (at + length bytes) (length l) h)

-- ---- and one without
full-answer : (bytes l : List ℕ) (at : ℕ) → length l < at + length bytes → pack_answer bytes l at ≡ refused buffer_too_small
unfolding pack_answer
full-answer bytes l at h = rw (lt-leb (at + length bytes) (length l) h)

full-after : (bytes l : List ℕ) (at : ℕ) → length l < at + length bytes → pack_after bytes l at ≡ l
unfolding pack_after
full-after bytes l at h = rw (lt-leb (at + length bytes) (length l) h)

pub full-refused : (bytes l : List ℕ) (at : ℕ) → length l < at + length bytes → (e : EncodeError) → encode_refusal e ≡ buffer_too_small → PackIs bytes l at (Err e) l
full-refused bytes l at h e says = record { answer = ap refused says ∙ sym (full-answer bytes l at h); holds = sym (full-after bytes l at h) }

pub full-packed : (bytes l : List ℕ) (at : ℕ) → length l < at + length bytes → PackIs bytes l at (Err BufferTooSmall) l
full-packed bytes l at h = full-refused bytes l at h BufferTooSmall refl

-- ---- bytes copied to their place, which ends at `end`
pub copied-packed : (bytes l part : List ℕ) (at end : ℕ) → end ≡ at + length bytes → end ≤ length l → part ≡ bytes
    → PackIs bytes l at (Ok end) (take at l ++ (part ++ drop (end - at) (drop at l)))
unfolding written
copied-packed bytes l part at end ends inside all =
    let size : end - at ≡ length bytes = omega arith in
    record {
      answer = ap ok ends ∙ sym (fits-answer bytes l at (omega arith));
      holds = rw (all, size, drop-drop (length bytes) at l) (sym (append_assoc (take at l) bytes _)) ∙ sym (fits_after bytes l at (omega arith));
    }

-- ---- the digits of a number
pub digits-packed : (width n : ℕ) (l : List ℕ) (at : ℕ) (after : List ℕ) → at + width ≤ length l → after ≡ written l at (big_endian width n)
    → PackIs (big_endian width n) l at (Ok (at + width)) after
digits-packed width n l at after h e =
    let d : length (big_endian width n) ≡ width = digits-length width n in
    record {
      answer = ap (λ (k : ℕ). ok (at + k)) (sym d) ∙ sym (fits-answer (big_endian width n) l at (omega arith));
      holds = e ∙ sym (fits_after (big_endian width n) l at (omega arith));
    }

pub no-digits-refused : (width n : ℕ) (l : List ℕ) (at : ℕ) → length l < at + width → (e : EncodeError) → encode_refusal e ≡ buffer_too_small
    → PackIs (big_endian width n) l at (Err e) l
no-digits-refused width n l at h e says = full-refused (big_endian width n) l at (omega (arith, digits-length width n)) e says

-- ---- two writes, one after the other, are one write of the joined bytes: the answer, and what the slice holds where both fit
as-sets : (bytes l : List ℕ) (at : ℕ) → at + length bytes ≤ length l → pack_after bytes l at ≡ sets l at bytes
as-sets bytes l at h = fits_after bytes l at h ∙ sym (stored bytes l at h)

pub after-length : (bytes l : List ℕ) (at : ℕ) → at + length bytes ≤ length l → length (pack_after bytes l at) ≡ length l
after-length bytes l at h = ap length (as-sets bytes l at h) ∙ length-sets l at bytes

module _ (p q l : List ℕ) (at : ℕ) (h : at + length p ≤ length l) where
  places : at + length p + length q ≡ at + length (p ++ q)
  places = omega (arith, length-append p q)

  two-answers : pack_answer q (pack_after p l at) (at + length p) ≡ pack_answer (p ++ q) l at
  unfolding pack_answer
  two-answers = rw (after-length p l at h, places)

  two-writes : at + length (p ++ q) ≤ length l → pack_after q (pack_after p l at) (at + length p) ≡ pack_after (p ++ q) l at
  two-writes k =
      let room : at + length p + length q ≤ length (pack_after p l at) = rw (places, after-length p l at h) k in
      as-sets q (pack_after p l at) (at + length p) room
      ∙ ap (λ (m : List ℕ). sets m (at + length p) q) (as-sets p l at h)
      ∙ sets-sets l at p q
      ∙ sym (as-sets (p ++ q) l at k)

-- the same of what two writers answered
pub two-packs : {p q l m after : List ℕ} {at : ℕ} {r s : Result ℕ EncodeError} → at + length (p ++ q) ≤ length l → PackIs p l at r m → PackIs q m (at + length p) s after
    → PackIs (p ++ q) l at s after
two-packs {p} {q} {l} {m} {after} {at} room w v =
    let first : at + length p ≤ length l = omega (arith, length-append p q) in
    record {
      answer = v.answer ∙ ap (λ (x : List ℕ). pack_answer q x (at + length p)) w.holds ∙ two-answers p q l at first;
      holds = v.holds ∙ ap (λ (x : List ℕ). pack_after q x (at + length p)) w.holds ∙ two-writes p q l at first room;
    }

-- no byte
pub none-packed : (l : List ℕ) (at : ℕ) → at ≤ length l → PackIs [] l at (Ok at) l
none-packed l at room =
    record { answer = rw (fits-answer [] l at (omega arith)) (ap ok (omega arith)); holds = sym (fits_after [] l at (omega arith) ∙ sym (stored [] l at (omega arith))) }
